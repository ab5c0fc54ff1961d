use Rattle.std.proofs.Common.{◌≡◌, map}
use Rattle.day_core.proofs.ordering.queues_of.Given as goal

abbrev pub invariant-loop-list : goal.invariant-loop-list
invariant-loop-list g l = map (λ own. own.items) l.queues.items ≡ map (λ own. own.items) l.yielded
