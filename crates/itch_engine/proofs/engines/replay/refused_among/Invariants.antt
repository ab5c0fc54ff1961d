use Rattle.std.proofs.Common.{◌≡◌}
use Rattle.std.specs.List.{range_with_len}
use Rattle.day_replay.specs.Summaries as summaries
use Rattle.itch_engine.proofs.engines.replay.refused_among.Given as goal

abbrev pub invariant-loop-before : goal.invariant-loop-before
invariant-loop-before g l = l.refused.items ≡ summaries.refused_among l.day.payloads (range_with_len 1 l.before)
