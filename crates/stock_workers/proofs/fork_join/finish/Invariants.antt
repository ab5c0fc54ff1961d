use Rattle.std.proofs.Common.{◌-◌, length}
use Rattle.day_core.specs.Owners.{own_of}
use Rattle.stock_workers.proofs.FinishedWorker.{IsUnderWay}
use Rattle.stock_workers.proofs.fork_join.finish.Given as goal

abbrev pub invariant-loop-worker : goal.invariant-loop-worker
invariant-loop-worker g l = IsUnderWay l.fn.day.payloads l.fn.parts l.fn.waiting.worker l.fn.waiting.writers.items l.worker l.pieces.items

abbrev pub decreases-loop-worker : goal.decreases-loop-worker
decreases-loop-worker g l = length (own_of l.fn.parts.workers l.fn.waiting.worker l.fn.day.payloads) - l.worker.done
