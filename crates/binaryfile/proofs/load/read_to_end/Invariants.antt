use Rattle.std.proofs.Common.{◌≡◌, ◌+◌, ◌-◌, ◌<◌, ◌≤◌, length, vec_len, false}
use Rattle.std.specs.Io.KnownBytes.{Consumes}
use Rattle.binaryfile.proofs.load.read_to_end.Given as goal

abbrev pub invariant-loop-feed : goal.invariant-loop-feed
invariant-loop-feed g l = record {
  gave : Consumes (g.R.Read.remaining l.fn.feed.device) (g.R.Read.remaining l.feed.device) l.bytes.items;
  within : length l.bytes.items ≤ l.limit + 1;
  working : l.feed.failed ≡ false;
  room : 0 < vec_len l.piece;
}

abbrev pub decreases-loop-feed : goal.decreases-loop-feed
decreases-loop-feed g l = l.limit + 1 - length l.bytes.items
