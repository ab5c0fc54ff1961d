-- A machine and a writer that shows what the machine has made of a day.
use Rattle.std.specs.Prelude.{◌≡◌, ◌<◌, ◌≤◌, ◌^◌, ℕ, List, length}
use Rattle.itch_table.specs.After.{after}
use Rattle.itch_table.specs.Machine.{Machine}
use Rattle.top_cell.specs.Boards.{CellId, ChangeAt, WriterAt, IsOn}

-- the machine has taken the first messages of the day, and the writer, whose cell is on the board, has shown
-- the last of them
pub record AreInStep (day : List (List ℕ)) (board : List CellId) (m : Machine) (w : WriterAt) : Type 0 where
  pub few : length day < 2 ^ 32
  pub world : m.world ≡ after day m.steps
  pub within : m.steps ≤ length day
  pub day_is : w.place.day ≡ day
  pub on : IsOn board w.place
  pub message : w.message ≡ m.steps

-- the machine has taken the first messages of the day, and the writer, whose cell is on the board, is in the middle
-- of a change to the last of them
pub record AreChanging (day : List (List ℕ)) (board : List CellId) (m : Machine) (o : ChangeAt) : Type 0 where
  pub few : length day < 2 ^ 32
  pub world : m.world ≡ after day m.steps
  pub within : m.steps ≤ length day
  pub day_is : o.place.day ≡ day
  pub on : IsOn board o.place
  pub to : o.to ≡ m.steps
