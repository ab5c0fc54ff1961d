-- A worker with the writers of its stocks' cells. All is of this project.
use Rattle.std.specs.Prelude.{◌≡◌, ◌+◌, ◌<◌, ◌≤◌, ℕ, List, Option, Some, None, length, map, slice_index}
use Rattle.stock_machine.specs.StockRows.{StockMachine}
use Rattle.day_core.specs.declared.merging.Piece.{Piece}
use Rattle.day_core.specs.Owners.{MayAddRow, locates_by, machine_of, new_machine, own_of, piece_of, progress}
use Rattle.day_core.specs.Splitting.{ArePartsOf, DayParts}
use Rattle.top_cell.specs.Boards.{Place, WriterAt}

-- a worker: the parts of the day that it shares, its number, how many of its own messages it has done, and the machines
-- and the writers of its stocks, by rising locate code
pub record Working : Type 0 where
  pub parts : DayParts
  pub worker : ℕ
  pub done : ℕ
  pub stocks : List StockMachine
  pub writers : List WriterAt

-- the locate codes of a worker's stocks, rising
abbrev pub codes_by : DayParts → ℕ → List ℕ
codes_by parts worker = locates_by parts.workers worker parts.locates

abbrev pub codes_of : Working → List ℕ
codes_of w = codes_by w.parts w.worker

-- the cells of its stocks
abbrev pub places_of : Working → List Place
places_of w = map (λ writer. writer.place) w.writers

-- a worker that has done nothing yet, with these writers
abbrev pub first_working : DayParts → ℕ → List WriterAt → Working
first_working parts worker writers = record {
  parts = parts;
  worker = worker;
  done = 0;
  stocks = map new_machine (codes_by parts worker);
  writers = writers;
}

-- what a writer shows: a stock of a day, and the message at which the writer stands
pub record WriterState : Type 0 where
  pub day : List (List ℕ)
  pub locate : ℕ
  pub message : ℕ

abbrev pub writer_state : WriterAt → WriterState
writer_state w = record { day = w.place.day; locate = w.place.locate; message = w.message }

-- a writer for each of these stocks of a day, in their order, each at the message that is said for its stock
abbrev pub WritersAt : List (List ℕ) → (ℕ → ℕ) → List ℕ → List WriterAt → Type 0
WritersAt day message locates writers =
    map writer_state writers
    ≡ map (λ locate. record { day = day; locate = locate; message = message locate }) locates

-- a worker's messages in a day, by their numbers, rising
abbrev pub messages_of : List (List ℕ) → Working → List ℕ
messages_of day w = own_of w.parts.workers w.worker day

-- its next message, where it has one left
abbrev pub next_of : List (List ℕ) → Working → ℕ
next_of day w = slice_index (messages_of day w) w.done

-- the last message of a stock among those that it has done, or 0
abbrev pub progress_in : List (List ℕ) → Working → ℕ → ℕ
progress_in day w locate = progress day w.parts.workers locate w.done

-- the writer of one of its stocks stands there
abbrev pub stands : List (List ℕ) → Working → ℕ → WriterState
stands day w locate = record { day = day; locate = locate; message = progress_in day w locate }

-- the worker is one of this day: each of its stocks and their writers stand at the last message of the stock that it has
-- done
pub record IsWorkerOf (day : List (List ℕ)) (w : Working) : Type 0 where
  pub parts_are : ArePartsOf day w.parts
  pub within : w.done ≤ length (messages_of day w)
  pub stocks_are : w.stocks
      ≡ map (λ locate. machine_of day locate (progress_in day w locate)) (codes_of w)
  pub writers_are : WritersAt day (progress_in day w) (codes_of w) w.writers

-- a turn may need memory: a message is left that may
pub record MayGrowNext (day : List (List ℕ)) (w : Working) : Type 0 where
  pub more : w.done < length (messages_of day w)
  pub adds : MayAddRow day (next_of day w)

-- the worker has done its next message, on the same cells
pub record HasTurned (day : List (List ℕ)) (old new : Working) (piece : Piece) : Type 0 where
  pub more : old.done < length (messages_of day old)
  pub piece_is : piece ≡ piece_of day (next_of day old)
  pub same_parts : new.parts ≡ old.parts
  pub same_worker : new.worker ≡ old.worker
  pub moved : new.done ≡ old.done + 1
  pub same_places : places_of new ≡ places_of old
  pub stands : IsWorkerOf day new

-- a turn does the worker's next message, or nothing exactly where the worker has done all of them
abbrev pub TakesTurn : List (List ℕ) → Working → Working → Option Piece → Type 0
TakesTurn day old new None = (old.done ≡ length (messages_of day old)) × (new ≡ old)
TakesTurn day old new (Some piece) = HasTurned day old new piece
