use Rattle.std.proofs.Common.{length, ◌-◌, ◌≡◌, ◌≤◌, take, false}
use Rattle.std.specs.Io.KnownBytes.{Consumes}
use Rattle.day_segments.proofs.reading.fill.Given as goal

abbrev pub invariant-loop-at : goal.invariant-loop-at
invariant-loop-at g l = record {
  gave : Consumes (g.R.Read.remaining l.fn.feed.device) (g.R.Read.remaining l.feed.device) (take l.at l.buffer);
  within : l.at ≤ length l.buffer;
  long : length l.buffer ≡ length l.fn.buffer;
  working : l.feed.failed ≡ false;
}

abbrev pub decreases-loop-at : goal.decreases-loop-at
decreases-loop-at g l = length l.buffer - l.at
