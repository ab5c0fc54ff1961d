use Rattle.std.proofs.Common.{◌≡◌, ◌+◌, ◌*◌, ◌-◌}
use Rattle.binaryfile.specs.Devices.{HasFailed}
use Rattle.file_replay.proofs.Replayed.{IsReplaying, is_dealt}
use Rattle.file_replay.proofs.replaying.replay_whole.Given as goal

abbrev pub invariant-loop-more : goal.invariant-loop-more
invariant-loop-more g l = record {
  so_far : IsReplaying (g.R.Read.remaining l.fn.feed.device) (g.R.Read.remaining l.feed.device) l.file l.more l.dealt l.replay;
  most : l.file.reading.most ≡ l.fn.file.reading.most;
  limit : l.file.limit ≡ l.fn.file.limit;
  works : ¬ HasFailed l.feed;
}

abbrev pub decreases-loop-more : goal.decreases-loop-more
decreases-loop-more g l = 2 * (l.file.reading.most - l.file.reading.given) + is_dealt l.more
