use Rattle.std.proofs.Common.{◌≡◌, List, map, take, drop}
use Rattle.std.specs.List.{zip}
use Rattle.day_core.specs.Replaying.{AreByWorker, each_worker, values_by}
use Rattle.day_core.proofs.ordering.in_order.Given as goal

abbrev pub invariant-loop-locate : goal.invariant-loop-locate
invariant-loop-locate g l = (values : List g.row.T.Denot) → AreByWorker l.parts values (map (λ own. own.items) l.fn.by_worker.items) → record {
  all : l.all.items ≡ take l.locate-index values;
  left : map (λ own. own.items) l.queues.items ≡ each_worker (values_by l.parts.workers (zip (drop l.locate-index values) (drop l.locate-index l.locates))) l.parts.workers;
}
