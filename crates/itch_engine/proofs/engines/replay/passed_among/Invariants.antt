use Rattle.std.proofs.Common.{◌≡◌, take}
use Rattle.std.specs.List.{count_by}
use Rattle.day_replay.specs.Summaries.{is_passed}
use Rattle.itch_engine.proofs.engines.replay.passed_among.Given as goal

abbrev pub invariant-loop-outcome : goal.invariant-loop-outcome
invariant-loop-outcome l = l.passed ≡ count_by is_passed (take l.outcome-index l.found)
