use Rattle.std.proofs.Common.{◌≤◌, length}
use Rattle.std.specs.List.{AllWithin}
use Rattle.order_book.specs.Kept.{IsBetter}
use Rattle.order_book.proofs.ladder.index_of.Given as goal

-- the levels from here on are better
abbrev pub invariant-loop : goal.invariant-loop
invariant-loop l = (l.end ≤ length l.levels) × AllWithin (IsBetter l.side l.price) l.levels l.end (length l.levels)
