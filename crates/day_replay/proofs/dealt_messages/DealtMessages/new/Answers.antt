use Rattle.std.proofs.Common.{arith}
use Rattle.day_replay.proofs.DealtOneByOne.{none_dealt}
use Rattle.day_replay.proofs.dealt_messages.DealtMessages.new.Goals as goal

pub returns : goal.returns
returns g c = λ before fits. none_dealt before c.loop-batch.batches.items c.new-2.result (omega arith) c.loop-batch.invariant.1 c.new-2.ensures fits
