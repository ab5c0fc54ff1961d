use Rattle.std.proofs.Common.{◌≡◌, ◌++◌, ℕ, List}
use Rattle.day_replay.specs.Batches.{AreOwn, HasDone}
use Rattle.day_replay.proofs.batch.Batch.do_all.Given as goal

abbrev pub invariant-loop-message : goal.invariant-loop-message
invariant-loop-message g l =
    (done : List (ℕ × List ℕ)) × (l.messages ≡ done ++ l.message-iterator)
    × ((batch : ℕ) (before : List (ℕ × List ℕ))
    → HasDone batch before l.fn.self → AreOwn batch l.messages → HasDone batch (before ++ done) l.self)
