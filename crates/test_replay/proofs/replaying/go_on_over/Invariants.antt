use Rattle.std.proofs.Common.{ℕ, List}
use Rattle.day_replay.specs.Replays.{HasReplayed}
use Rattle.test_replay.proofs.replaying.go_on_over.Given as goal

abbrev pub invariant-loop-segment : goal.invariant-loop-segment
invariant-loop-segment g l = (day : List (List ℕ)) × HasReplayed day l.replay
