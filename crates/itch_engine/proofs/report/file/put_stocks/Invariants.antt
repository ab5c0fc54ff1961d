use Rattle.std.proofs.Common.{◌≡◌, ◌++◌, take}
use Rattle.std.specs.List.{flat_map}
use Rattle.itch_engine.specs.Report.{machine_lines}
use Rattle.itch_engine.proofs.report.file.put_stocks.Given as goal

abbrev pub invariant-loop-stock : goal.invariant-loop-stock
invariant-loop-stock g l = l.text.items ≡ l.fn.text.items ++ flat_map machine_lines (take l.stock-index l.stocks)
