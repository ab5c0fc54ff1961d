-- What the engine of a screen makes of an input, and the faults that it finds in one.
use Rattle.std.specs.Prelude.{◌≡◌, ◌^◌, ◌-◌, ◌≤◌, ℕ, List, length}
use Rattle.binaryfile.specs.Entries.{Contents, Splits}
use Rattle.engine_rules.specs.Limits.{HasTooManyMessages}
use Rattle.engine_rules.specs.Runs.{Engine}
use Rattle.itch_readings.specs.Naming.{NamesStock}
use Rattle.itch_readings.specs.declared.naming.StockName.{StockName}
use Rattle.top_cell.specs.declared.reading.Reading.{Reading}
use Rattle.itch_watch.specs.Lines.{reading_lines}
use Rattle.itch_watch.specs.Watching.{AreSeenToTheEnd}

-- The file has the stock that is named, and the text is what a screen has seen of it to the end of the day.
pub record PrintsSeen (name : StockName) (input text : List ℕ) : Type 0 where
  pub contents : Contents
  pub split : Splits input contents
  pub few : length contents.payloads ≤ 2 ^ 32 - 1
  pub message : ℕ
  pub locate : ℕ
  pub named : NamesStock contents.payloads name message locate
  pub readings : List Reading
  pub seen : AreSeenToTheEnd contents.payloads locate readings
  pub printed : text ≡ reading_lines readings

-- the engine that reads a day file, replays it, and writes what a screen of one of its stocks sees meanwhile
abbrev pub watcher : StockName → Engine (Unit {0})
watcher name = record {
  most = 2 ^ 40;
  Makes = λ input output _. PrintsSeen name input output;
  Finds = HasTooManyMessages;
}
