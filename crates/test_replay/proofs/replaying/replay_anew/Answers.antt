use Rattle.std.proofs.Common.{[]}
use Rattle.test_replay.proofs.replaying.replay_anew.Goals as goal

pub go_on-requires : goal.go_on-requires
go_on-requires g c =
    (search, (search, (search, (search, ([], c.args.day.now.payloads, c.in_ok-replay.ensures {u = tt}, c.in_ok-deal.ensures {u = tt})))))
