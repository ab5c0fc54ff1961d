use Rattle.std.proofs.Common.{◌≡◌, ℕ, List, length}
use Rattle.itch_show.specs.Places.{ComesUpTo}
use Rattle.itch_show.proofs.PartsTaken.{IsTakenAlong}
use Rattle.itch_show.proofs.reading.take_part.Given as goal

abbrev pub invariant-loop-payload : goal.invariant-loop-payload
invariant-loop-payload g l =
    (first : g.row.T.Denot) (day : List (List ℕ)) → g.T.TakesMessages.has_taken first l.fn.taker day → l.before ≡ length day → ComesUpTo l.place day
    → IsTakenAlong l.place (g.T.TakesMessages.has_taken first l.taker) day l.segment.payloads l.payload-iterator l.messages
