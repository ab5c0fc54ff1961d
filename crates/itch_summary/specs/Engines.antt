-- What the engine of summaries makes of an input, and the fault that it finds in one.
use Rattle.std.specs.Prelude.{◌≡◌, ◌≤◌, ◌-◌, ◌^◌, ℕ, List, Option, length}
use Rattle.binaryfile.specs.Entries.{Contents, Splits}
use Rattle.binaryfile.specs.declared.day.Limits.{Limits}
use Rattle.day_segments.specs.Reading.{IsWholeFile}
use Rattle.engine_rules.specs.Limits.{HasTooManyMessages}
use Rattle.engine_rules.specs.Runs.{Engine}
use Rattle.itch_summary.specs.Summaries.{summary_of_day}

-- The input is a file, and the text is its summary.
pub record Summarizes (input text : List ℕ) : Type 0 where
  pub contents : Contents
  pub split : Splits input contents
  pub few : length contents.payloads ≤ 2 ^ 32 - 1
  pub summary : text ≡ summary_of_day contents.payloads

-- The reader gave a whole file within the limits, and the text is its summary.
pub record GaveSummarized (old new : Option (List ℕ)) (limits : Limits) (text : List ℕ) : Type 0 where
  pub contents : Contents
  pub whole : IsWholeFile old new limits.bytes contents
  pub few : length contents.payloads ≤ limits.messages
  pub summary : text ≡ summary_of_day contents.payloads

-- the engine that reads a day file and writes its summary
abbrev pub summary_printer : Engine (Unit {0})
summary_printer = record {
  most = 2 ^ 40;
  Makes = λ input output _. Summarizes input output;
  Finds = HasTooManyMessages;
}
