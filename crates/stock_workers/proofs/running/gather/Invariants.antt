use Rattle.std.proofs.Common.{◌≡◌, ℕ, List, length, map}
use Rattle.std.specs.List.{range_with_len}
use Rattle.day_core.specs.Replaying.{last_machine, own_values, pieces_by}
use Rattle.day_core.specs.Splitting.{DayParts}
use Rattle.top_cell.specs.Boards.{WriterAt}
use Rattle.stock_workers.specs.Running.{AreFinished, at_last}
use Rattle.stock_workers.specs.Working.{codes_by}
use Rattle.stock_workers.proofs.running.gather.Given as goal

abbrev pub invariant-loop-one : goal.invariant-loop-one
invariant-loop-one g l = (day : List (List ℕ)) (parts : DayParts) (writers : List WriterAt) → AreFinished day parts writers l.fn.made.items → record {
  pieces : map (λ own. own.items) l.pieces.items ≡ map (pieces_by day parts.workers) (range_with_len 0 (length l.yielded));
  stocks : map (λ own. own.items) l.stocks.items ≡ map (λ w. map (last_machine day) (codes_by parts w)) (range_with_len 0 (length l.yielded));
  writers : map (λ own. own.items) l.writers.items ≡ map (λ w. map (at_last day) (own_values parts writers w)) (range_with_len 0 (length l.yielded));
}
