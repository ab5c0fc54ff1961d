use Rattle.std.proofs.Common.{◌+◌, ◌≤◌, length}
use Rattle.std.specs.List.{AllWithin}
use Rattle.order_book.specs.Parts.{IsAbove, IsBelow}
use Rattle.order_book.proofs.rising.index_of.Given as goal

abbrev pub invariant-loop-count : goal.invariant-loop-count
invariant-loop-count l = record {
  within : l.low + l.count ≤ length l.rows;
  below : AllWithin (IsBelow l.distance) l.rows 0 l.low;
  above : AllWithin (IsAbove l.distance) l.rows (l.low + l.count) (length l.rows);
}

abbrev pub decreases-loop-count : goal.decreases-loop-count
decreases-loop-count l = l.count
