use Rattle.std.proofs.Common.{◌≡◌}
use Rattle.top_cell.specs.Rule.{IsWriting, stock_of, change_of}
use Rattle.top_cell.specs.Seats.{IsSameSeat}
use Rattle.top_cell.proofs.writing.write.Given as goal

abbrev pub ghosts-begin_write : goal.ghosts-begin_write
ghosts-begin_write a = record { words = a.words.now }

abbrev pub invariant-loop-index : goal.invariant-loop-index
invariant-loop-index l =
    IsSameSeat l.fn.seat l.seat × IsWriting l.seat.me.0 × (stock_of l.seat.me.0 ≡ stock_of l.fn.seat.me.0) × (l.seat.me.1 ≡ l.fn.seat.me.1)
    × ((change_of l.seat.me.0).put ≡ l.index) × ((change_of l.seat.me.0).new ≡ l.words)
