-- What a screen of a stock sees while workers replay a day. All is of this project.
use Rattle.std.specs.Prelude.{◌≡◌, ◌<◌, ℕ, List, ◌∷◌, All, length, map, slice_index_or}
use Rattle.std.specs.List.Sorted.{IsStrictlyIncreasing}
use Rattle.itch_table.specs.Shows.{Shows}
use Rattle.top_cell.specs.Boards.{CellId, IsOn, Place, WriterAt}
use Rattle.top_cell.specs.Readings.{words_read}
use Rattle.top_cell.specs.declared.reading.Reading.{Reading}
use Rattle.day_core.specs.Owners.{last_message, last_or}

-- a reading is the best bid and ask of a stock of the day after the reading's message
abbrev pub IsReading : List (List ℕ) → ℕ → Reading → Type 0
IsReading day locate reading = Shows day locate reading.message (words_read reading)

-- the numbers of the messages of some readings
abbrev pub numbers : List Reading → List ℕ
numbers readings = map (λ r. r.message) readings

-- readings of a stock, in the order in which a screen has seen them: their messages are ever later ones
pub record AreSeen (day : List (List ℕ)) (locate : ℕ) (readings : List Reading) : Type 0 where
  pub each : All (IsReading day locate) readings
  pub rising : IsStrictlyIncreasing (0 ∷ numbers readings)

-- and so to the end: the last is of the stock's last message
pub record AreSeenToTheEnd (day : List (List ℕ)) (locate : ℕ) (readings : List Reading) : Type 0 where
  pub seen : AreSeen day locate readings
  pub last : last_or 0 (numbers readings) ≡ last_message day locate

-- the cell of a stock's screen is that of the stock's writer, which has this index
pub record IsScreenOf (board : List CellId) (writers : List WriterAt) (locate index : ℕ)
    (own : Place) : Type 0 where
  pub within : index < length writers
  pub writer : (d : WriterAt) → (slice_index_or writers index d).place ≡ own
  pub stock : own.locate ≡ locate
  pub on : IsOn board own
