-- What holds of the messages of a day file. All is of this project.
use Rattle.std.specs.Prelude.{◌^◌, ◌-◌, ◌≤◌, ℕ, List, Option, length}
use Rattle.binaryfile.specs.Entries.{Contents, Splits}
use Rattle.binaryfile.specs.declared.day.Limits.{Limits}
use Rattle.day_segments.specs.Reading.{IsWholeFile}

-- the input is a file of no more messages than a message number counts, of which this holds
pub record IsFileOf (Holds : List (List ℕ) → Type 0) (input : List ℕ) : Type 0 where
  pub contents : Contents
  pub split : Splits input contents
  pub few : length contents.payloads ≤ 2 ^ 32 - 1
  pub holds : Holds contents.payloads

-- the reader gave a whole file within the limits, and this holds of its messages
pub record GaveFile (old new : Option (List ℕ)) (limits : Limits) (Holds : List (List ℕ) → Type 0) : Type 0 where
  pub contents : Contents
  pub whole : IsWholeFile old new limits.bytes contents
  pub few : length contents.payloads ≤ limits.messages
  pub holds : Holds contents.payloads
