use Rattle.std.proofs.Common.{[]}
use Rattle.test_replay.proofs.replaying.replay_segments.Goals as goal

pub go_on_over-requires : goal.go_on_over-requires
go_on_over-requires g c = (search, (search, (search, (search, ([], c.in_ok-replay.ensures {u = tt})))))
