use Rattle.std.proofs.Common.{ℕ, List}
use Rattle.std.specs.List.Sorted.{IsPermutation}
use Rattle.day_replay.proofs.RefusedMessages.{refused_below}
use Rattle.day_replay.specs.Replays.{AreAfter}
use Rattle.day_replay.proofs.ending.joined.Given as goal

abbrev pub invariant-loop-batch : goal.invariant-loop-batch
invariant-loop-batch g l =
    (day : List (List ℕ)) → AreAfter day l.batches
    → IsPermutation (refused_below day 128 l.batch-index) l.all.items
