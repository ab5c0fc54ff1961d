use Rattle.std.proofs.Common.{◌≡◌, ◌-◌}
use Rattle.binaryfile.specs.Devices.{HasFailed}
use Rattle.itch_readings.proofs.FileTaken.{IsTakenTo}
use Rattle.itch_readings.proofs.segments.read_segments.Given as goal

abbrev pub invariant-loop-reader : goal.invariant-loop-reader
invariant-loop-reader g l = record {
  so_far : IsTakenTo (g.R.Read.remaining l.fn.feed.device) (g.R.Read.remaining l.feed.device) l.reader l.limits.messages
      (g.T.TakesSegments.has_taken l.fn.taker l.taker);
  most : l.reader.most ≡ l.limits.bytes;
  working : HasFailed l.fn.feed → l.feed ≡ l.fn.feed;
}

abbrev pub decreases-loop-reader : goal.decreases-loop-reader
decreases-loop-reader g l = l.reader.most - l.reader.given
