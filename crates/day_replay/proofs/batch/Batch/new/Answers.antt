use Rattle.std.proofs.Common.{false, arith}
use Rattle.day_replay.proofs.BatchSteps.{none_done}
use Rattle.day_replay.proofs.batch.Batch.new.Goals as goal

pub returns : goal.returns
returns g c = λ batch. none_done _ (λ v. v.value) batch c.loop-slot.stocks.items _ false (omega (arith, c.loop-slot.invariant.0)) c.loop-slot.invariant.1 c.new.ensures.items
