use Rattle.std.proofs.Common.{arith}
use Rattle.day_replay.proofs.DealtOneByOne.{none_dealt}
use Rattle.day_replay.proofs.dealt_messages.DealtMessages.clear.Goals as goal

pub returns : goal.returns
returns g c = λ before fits.
    let inside = c.loop-batch.self-inside in
    none_dealt before inside.batches.items c.clear-2.new.self c.loop-batch.invariant.0 (λ k d lt. c.loop-batch.invariant.1 k d (omega arith)) c.clear-2.ensures fits
