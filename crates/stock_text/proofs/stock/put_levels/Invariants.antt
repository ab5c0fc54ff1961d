use Rattle.std.proofs.Common.{◌≡◌, ◌++◌, take}
use Rattle.std.specs.List.{flat_map}
use Rattle.stock_text.specs.Stocks.{level_line}
use Rattle.stock_text.proofs.stock.put_levels.Given as goal

abbrev pub invariant-loop-level : goal.invariant-loop-level
invariant-loop-level g l = l.text.items ≡ l.fn.text.items ++ flat_map (level_line l.side) (take l.level-index l.levels)
