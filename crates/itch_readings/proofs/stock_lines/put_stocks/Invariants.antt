use Rattle.std.proofs.Common.{◌≡◌, ◌++◌, drop}
use Rattle.itch_readings.specs.StockLines.{listed_lines}
use Rattle.itch_readings.proofs.stock_lines.put_stocks.Given as goal

abbrev pub invariant-loop-known : goal.invariant-loop-known
invariant-loop-known g l = record {
  locate : l.locate ≡ l.known-index;
  lines : l.text.items ++ listed_lines l.locate (drop l.known-index l.listed) ≡ l.fn.text.items ++ listed_lines 0 l.listed;
}
