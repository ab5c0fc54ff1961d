-- A board, its writers and its screens, as contracts see them. All is of this project.
use Rattle.std.specs.Prelude.{◌≡◌, ℕ, List, Some, length, map, slice_get}
use Rattle.atomic_table.specs.Seated.{TableId}
use Rattle.top_cell.specs.Rule.{stock_of}
use Rattle.top_cell.specs.Seats.{CellSeat}

-- a cell: the locate code of its stock, and the identity of its table
pub record CellId : Type 0 where
  pub locate : ℕ
  pub table : TableId

-- the cell of a writer or of a screen: the day and the stock that it shows, its index on its board, and the cell
pub record Place : Type 0 where
  pub day : List (List ℕ)
  pub locate : ℕ
  pub index : ℕ
  pub cell : CellId

-- a writer, which stands at a message
pub record WriterAt : Type 0 where
  pub place : Place
  pub message : ℕ

-- a writer in the middle of a change from the message at which it stands to another one, which has put this many of
-- the four words
pub record ChangeAt : Type 0 where
  pub place : Place
  pub from : ℕ
  pub to : ℕ
  pub put : ℕ

-- a screen, which stands at a message: its seat at the cell, how often it has loaded the count or a word
-- there, how often it has loaded the count, has begun a try and has won one, the last count that it has loaded, and
-- the even one at which its last try began
pub record ScreenAt : Type 0 where
  pub place : Place
  pub seat : ℕ
  pub message : ℕ
  pub loads : ℕ
  pub looks : ℕ
  pub tries : ℕ
  pub wins : ℕ
  pub last : ℕ
  pub began : ℕ

abbrev pub cell_id : ℕ → TableId → CellId
cell_id locate table = record { locate = locate; table = table }

-- the cell of a seat, at an index on its board
abbrev pub place : CellSeat → ℕ → Place
place seat index = record {
  day = (stock_of seat.me.0).day;
  locate = (stock_of seat.me.0).locate;
  index = index;
  cell = cell_id (stock_of seat.me.0).locate seat.table_id;
}

-- the cell is one of this board
abbrev pub IsOn : List CellId → Place → Type 0
IsOn board own = slice_get board own.index ≡ Some own.cell

-- a board has one cell for each of its stocks
abbrev pub AreApart : List CellId → Type 0
AreApart board =
    (i j : ℕ) (c d : CellId) → slice_get board i ≡ Some c → slice_get board j ≡ Some d
    → c.locate ≡ d.locate → i ≡ j

-- a screen that stands at a message and has made no loads, at a seat
abbrev pub new_screen : Place → ℕ → ℕ → ScreenAt
new_screen own message seat = record {
  place = own;
  seat = seat;
  message = message;
  loads = 0;
  looks = 0;
  tries = 0;
  wins = 0;
  last = 0;
  began = 0;
}

-- the writer of a cell that has published nothing
abbrev pub new_writer : List (List ℕ) → ℕ → ℕ → CellId → WriterAt
new_writer day locate index cell =
    record { place = record { day = day; locate = locate; index = index; cell = cell }; message = 0 }

-- new cells for these stocks of a day, in their order, and the writer of each at the same index, which has
-- published nothing
pub record AreNew (day : List (List ℕ)) (locates : List ℕ) (board : List CellId) (writers : List WriterAt)
    : Type 0 where
  pub stocks : map (λ w. w.place.locate) writers ≡ locates
  pub cells : map (λ c. c.locate) board ≡ locates
  pub long : length board ≡ length writers
  pub each : (index : ℕ) (w : WriterAt) → slice_get writers index ≡ Some w
      → (w ≡ new_writer day w.place.locate index w.place.cell) × IsOn board w.place
