use Rattle.std.proofs.Common.{◌≡◌, ℕ, [], All, length}
use Rattle.day_replay.specs.Batches.{HasDone}
use Rattle.day_replay.proofs.replay.Replay.new.Given as goal

abbrev pub invariant-loop-batch : goal.invariant-loop-batch
invariant-loop-batch g l =
    (length l.batches.items ≡ l._batch) × All (λ b. (batch : ℕ) → HasDone batch [] b) l.batches.items
