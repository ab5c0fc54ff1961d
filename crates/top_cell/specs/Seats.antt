-- What a writer and a screen know at their seats of a cell.
use Rattle.std.specs.Prelude.{◌≡◌, ◌<◌, ◌≤◌, ◌^◌, ℕ, List, [], length}
use Rattle.atomic_table.specs.Seated.{TableId}
use Rattle.atomic_table.specs.declared.shared.Seat.{Seat}
use Rattle.top_cell.specs.declared.rule.View.{View}
use Rattle.top_cell.specs.Rule.{IsIdle, IsScreen, IsWriting, change_of, number_in, number_of, stock_of}

-- a seat of a cell: the cell's table, its number there, and what is known at it
abbrev pub CellSeat : Type 0
CellSeat = Seat (Unit {0}) View

-- the seat is of this table, which is that of a cell: it has a count and four words
abbrev pub IsSeatOf : TableId → CellSeat → Type 0
IsSeatOf table seat = (seat.table_id ≡ table) × (table.words ≡ 5)

-- a step leaves the seat where it is
abbrev pub IsSameSeat : CellSeat → CellSeat → Type 0
IsSameSeat before after = (after.table_id ≡ before.table_id) × (after.id ≡ before.id)

-- 32 bits count the messages of the view's day
abbrev pub HasFewMessages : View → Type 0
HasFewMessages v = length (stock_of v).day < 2 ^ 32

-- the seat is that of a stock's writer outside any change, which stands at this message
abbrev pub IsWritersSeat : CellSeat → ℕ → ℕ → Type 0
IsWritersSeat seat locate message =
    IsIdle seat.me.0 × (number_of seat.me.0 ≡ message) × ((stock_of seat.me.0).locate ≡ locate)
    × HasFewMessages seat.me.0

-- the seat is that of a stock's writer in a change to this message, which has put this many of these words
abbrev pub IsChangesSeat : CellSeat → ℕ → ℕ → List ℕ → ℕ → Type 0
IsChangesSeat seat locate message words put =
    IsWriting seat.me.0 × ((change_of seat.me.0).new ≡ words) × ((change_of seat.me.0).put ≡ put)
    × (number_in words ≡ message) × (put ≤ 4) × ((stock_of seat.me.0).locate ≡ locate)
    × HasFewMessages seat.me.0

-- the seat is that of a stock's screen outside any try, which stands at this message
abbrev pub IsScreensSeat : CellSeat → ℕ → ℕ → Type 0
IsScreensSeat seat locate message =
    IsScreen seat.me.0 × (number_of seat.me.0 ≡ message) × ((stock_of seat.me.0).locate ≡ locate)
    × HasFewMessages seat.me.0 × (seat.me.1 ≡ [])
