use Rattle.std.proofs.Common.{◌≡◌, [], All, length}
use Rattle.day_replay.proofs.dealt_messages.DealtMessages.new.Given as goal

abbrev pub invariant-loop-batch : goal.invariant-loop-batch
invariant-loop-batch g l = (length l.batches.items ≡ l._batch) × All (λ d. d ≡ []) l.batches.items
