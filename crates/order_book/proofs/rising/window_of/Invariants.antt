use Rattle.std.proofs.Common.{◌≤◌, length}
use Rattle.std.specs.List.{AllWithin}
use Rattle.order_book.specs.Parts.{IsAbove}
use Rattle.order_book.proofs.rising.window_of.Given as goal

abbrev pub invariant-loop : goal.invariant-loop
invariant-loop l = record { some : 1 ≤ l.step; within : l.end ≤ length l.rows; above : AllWithin (IsAbove l.distance) l.rows l.end (length l.rows) }
