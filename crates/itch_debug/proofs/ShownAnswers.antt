-- What a session answers that goes to a position and shows a stock.
use Rattle.std.proofs.Common.{◌≡◌, ℕ, length, refl, le-leb}
use Rattle.itch_debug.specs.Answering.{ShownIsAnswered}

pub is_answered : ShownIsAnswered
is_answered s n locate within = rw (le-leb n (length s.day) within) (refl, refl)
