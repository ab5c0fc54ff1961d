use Rattle.std.proofs.Common.{◌≡◌, map}
use Rattle.day_core.specs.Replaying.{each_worker, values_by}
use Rattle.day_core.proofs.ordering.by_worker.Given as goal

abbrev pub invariant-loop-value : goal.invariant-loop-value
invariant-loop-value g l = map (λ own. own.items) l.lists.items ≡ each_worker (values_by l.workers l.yielded) l.workers
