use Rattle.std.proofs.Common.{◌≡◌, ◌<◌, List, ℕ, [], get_or, length}
use Rattle.day_replay.proofs.dealt_messages.DealtMessages.clear.Given as goal

abbrev pub invariant-loop-batch : goal.invariant-loop-batch
invariant-loop-batch g l =
    (length l.self-inside.batches.items ≡ 128)
    × ((k : ℕ) (d : List (ℕ × List ℕ)) → k < l.batch → get_or l.self-inside.batches.items k d ≡ [])
