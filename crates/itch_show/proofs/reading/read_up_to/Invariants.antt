use Rattle.std.proofs.Common.{◌≡◌, ◌-◌, false}
use Rattle.itch_show.specs.Parts.{StopsAt}
use Rattle.itch_show.proofs.ReadingParts.{IsReadAlong}
use Rattle.itch_show.proofs.reading.read_up_to.Given as goal

abbrev pub invariant-segments : goal.invariant-segments
invariant-segments g l = record {
  so_far : IsReadAlong (g.R.Read.remaining l.fn.feed.device) (g.R.Read.remaining l.feed.device) l.reader l.limits l.place l.reached
      l.last.number l.last.payload.items (g.T.TakesMessages.has_taken l.fn.taker l.taker);
  most : l.reader.most ≡ l.limits.bytes;
  size : l.reader.size ≡ l.segment;
  needed : StopsAt l.place l.segment (g.R.Read.remaining l.fn.feed.device) (g.R.Read.remaining l.feed.device);
  works : l.feed.failed ≡ false;
}

abbrev pub decreases-segments : goal.decreases-segments
decreases-segments g l = l.reader.most - l.reader.given
