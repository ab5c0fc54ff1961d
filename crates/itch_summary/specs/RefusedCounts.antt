-- How many messages of each stock were refused, by the refused messages. Of this project.
use Rattle.std.specs.Prelude.{◌≡◌, ◌<◌, ℕ, List, length, slice_index_or}
use Rattle.day_replay.specs.declared.refusals.RefusedMessage.{RefusedMessage}
use Rattle.day_replay.specs.Summaries.{count_of_stock}

-- these are, by locate code, how many of the refused messages are each stock's
pub record AreCounts (refused : List RefusedMessage) (counts : List ℕ) : Type 0 where
  pub long : length counts ≡ 0x1_0000
  pub each : (locate d : ℕ) → locate < 0x1_0000
      → slice_index_or counts locate d ≡ count_of_stock refused locate
