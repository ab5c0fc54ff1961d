-- What became of the messages of a day, counted. Of this project.
use Rattle.std.specs.Prelude.{◌≡◌, List, count_by, length}
use Rattle.itch_table.specs.declared.outcome.Outcome.{Outcome}
use Rattle.day_replay.specs.Summaries.{is_applied, is_passed, is_refused}
use Rattle.itch_engine.specs.declared.report.messages.Tally.{Tally}

-- these are the numbers of all messages, and of those that were applied, passed over and refused
pub record IsTally (found : List Outcome) (tally : Tally) : Type 0 where
  pub messages : tally.messages ≡ length found
  pub applied : tally.applied ≡ count_by is_applied found
  pub passed : tally.passed ≡ count_by is_passed found
  pub refused : tally.refused ≡ count_by is_refused found
