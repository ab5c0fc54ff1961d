use Rattle.std.proofs.Common.{◌≡◌}
use Rattle.stock_workers.specs.Working.{IsWorkerOf, places_of}
use Rattle.test_stock_workers.proofs.turns.lead.Given as goal

abbrev pub invariant-loop-wanted : goal.invariant-loop-wanted
invariant-loop-wanted g l = record {
  worker : IsWorkerOf l.day.payloads l.worker;
  same : places_of l.worker ≡ places_of l.initial.worker;
}
