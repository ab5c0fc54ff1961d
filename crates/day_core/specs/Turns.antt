-- All workers of a day, and how far each has come. Of this project.
use Rattle.std.specs.Prelude.{◌≡◌, ◌+◌, ◌<◌, ◌≤◌, ℕ, List, Option, Some, None, length, map, slice_index, slice_set}
use Rattle.itch_table.specs.Shows.{top_after, words_of}
use Rattle.stock_machine.specs.StockRows.{StockMachine}
use Rattle.day_core.specs.declared.merging.Piece.{Piece}
use Rattle.day_core.specs.Owners.{MayAddRow, machine_of, own_of, owner, piece_of, progress}
use Rattle.day_core.specs.Splitting.{ArePartsOf, DayParts}

-- a day, and how many of its own messages each of its workers has done
pub record TurnsState : Type 0 where
  pub day : List (List ℕ)
  pub done : List ℕ

abbrev pub state_of : List (List ℕ) → List ℕ → TurnsState
state_of day done = record { day = day; done = done }

-- how many workers there are
abbrev pub workers_of : TurnsState → ℕ
workers_of turns = length turns.done

-- a worker's messages, by their numbers, rising
abbrev pub messages_of : TurnsState → ℕ → List ℕ
messages_of turns worker = own_of (workers_of turns) worker turns.day

-- a worker's next message, where it has one left
abbrev pub next_of : TurnsState → ℕ → ℕ
next_of turns worker = slice_index (messages_of turns worker) (slice_index turns.done worker)

-- the last message of a stock among those that its owner has done, or 0
abbrev pub progress_in : TurnsState → ℕ → ℕ
progress_in turns locate =
    progress turns.day (workers_of turns) locate (slice_index turns.done (owner (workers_of turns) locate))

-- the four words of a stock's best bid and ask after a number of messages of a day
abbrev pub words_at : List (List ℕ) → ℕ → ℕ → List ℕ
words_at day locate n = words_of n (top_after day locate n)

-- the words of a stock once its worker has done some of its messages: those of the last message of the stock among them
abbrev pub shown : List (List ℕ) → ℕ → ℕ → ℕ → List ℕ
shown day workers locate done = words_at day locate (progress day workers locate done)

-- what is kept of a day's workers: each stock's machine and words are those of the last message that its worker has done
pub record AreTurns (turns : TurnsState) (parts : DayParts) (stocks : List StockMachine)
    (cells : List (List ℕ)) : Type 0 where
  pub parts_are : ArePartsOf turns.day parts
  pub long : workers_of turns ≡ parts.workers
  pub within : (worker : ℕ) → worker < workers_of turns
      → slice_index turns.done worker ≤ length (messages_of turns worker)
  pub stocks_are : stocks ≡ map (λ locate. machine_of turns.day locate (progress_in turns locate)) parts.locates
  pub cells_are : cells ≡ map (λ locate. words_at turns.day locate (progress_in turns locate)) parts.locates

-- a worker has done all of its messages, or isn't one
abbrev pub HasNone : TurnsState → ℕ → Type 0
HasNone turns worker =
    worker < workers_of turns → slice_index turns.done worker ≡ length (messages_of turns worker)

-- a turn may need memory: this worker has a message left that may
pub record MayGrowAt (turns : TurnsState) (worker : ℕ) : Type 0 where
  pub one : worker < workers_of turns
  pub more : slice_index turns.done worker < length (messages_of turns worker)
  pub adds : MayAddRow turns.day (next_of turns worker)

-- a turn does the next message of its worker, and of no other; or nothing, exactly where the worker has done all of its
-- messages or isn't one
abbrev pub TurnsWorker : TurnsState → TurnsState → ℕ → Option Piece → Type 0
TurnsWorker old new worker None = HasNone old worker × (new ≡ old)
TurnsWorker old new worker (Some piece) =
    (worker < workers_of old) × (slice_index old.done worker < length (messages_of old worker))
    × (piece ≡ piece_of old.day (next_of old worker))
    × (new ≡ record old { done = slice_set old.done worker (slice_index old.done worker + 1) })
