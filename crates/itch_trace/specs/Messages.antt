-- The messages of a day, with what became of each. All is of this project.
use Rattle.std.specs.Prelude.{ℕ, List, length, map, None}
use Rattle.std.specs.List.{range_with_len}
use Rattle.itch_table.specs.declared.outcome.Outcome.{Outcome}
use Rattle.itch_table.specs.declared.outcome.Part.{Part}
use Rattle.itch_table.specs.declared.outcome.Part.TheVariants.{Locate, Nowhere}
use Rattle.itch_table.specs.After.{outcome}
use Rattle.itch_table.specs.Parts.{part}
use Rattle.itch_table.specs.Projection.{payload_at}
use Rattle.itch_table.specs.World.{empty_world}
use Rattle.itch_readings.specs.OwnMessages.{OwnMessage, own_at}

-- a message of no stock, which has no rows
abbrev pub other_message : ℕ → List ℕ → Outcome → OwnMessage
other_message number payload outcome = record {
  locate = 0;
  number = number;
  payload = payload;
  named = None;
  outcome = outcome;
  rows = empty_world;
}

-- message n of a day: one of its stock, or of none
abbrev pub message_by : List (List ℕ) → ℕ → Part → OwnMessage
message_by day n (Locate locate) = own_at day locate n
message_by day n (Nowhere fixed) = other_message n (payload_at day n) (outcome day n)

-- the first n messages of a day
abbrev pub messages_until : List (List ℕ) → ℕ → List OwnMessage
messages_until day n = map (λ k. message_by day k (part (payload_at day k))) (range_with_len 1 n)

-- all of them
abbrev pub messages_of : List (List ℕ) → List OwnMessage
messages_of day = messages_until day (length day)
