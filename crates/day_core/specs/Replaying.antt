-- What the workers of a day make of all of it. Of this project.
use Rattle.std.specs.Prelude.{◌≡◌, ◌==◌, ℕ, List, Option, length, map, filter}
use Rattle.std.specs.List.{range_with_len, zip}
use Rattle.itch_table.specs.declared.outcome.Outcome.{Outcome}
use Rattle.itch_table.specs.After.{after, outcomes}
use Rattle.itch_table.specs.Shows.{locates_of_day}
use Rattle.stock_machine.specs.StockRows.{StockMachine}
use Rattle.day_core.specs.declared.merging.Piece.{Piece}
use Rattle.day_core.specs.Owners.{machine_of, own_of, owner, piece_of}
use Rattle.day_core.specs.Splitting.{DayParts}

-- a stock's machine after the whole day
abbrev pub last_machine : List (List ℕ) → ℕ → StockMachine
last_machine day locate = machine_of day locate (length day)

-- what a whole day makes: the outcomes of its messages, the machines of its stocks by rising locate code, and
-- the last event
pub record IsReplayed (day : List (List ℕ)) (all : List Outcome) (stocks : List StockMachine)
    (event : Option ℕ) : Type 0 where
  pub outcomes_are : all ≡ outcomes day
  pub stocks_are : stocks ≡ map (last_machine day) (locates_of_day day)
  pub event_is : event ≡ (after day (length day)).event

-- a worker's messages with their outcomes, by rising number
abbrev pub pieces_by : List (List ℕ) → ℕ → ℕ → List Piece
pieces_by day workers worker = map (piece_of day) (own_of workers worker day)

-- of values that stand beside locate codes, those of a worker's stocks
abbrev pub values_by : {T : Type 0} → ℕ → List (T × ℕ) → ℕ → List T
values_by workers values worker = map (λ v. v.0) (filter (λ v. owner workers v.1 == worker) values)

-- of a value for each stock of the parts, by rising locate code, those of a worker's stocks
abbrev pub own_values : {T : Type 0} → DayParts → List T → ℕ → List T
own_values parts values worker = values_by parts.workers (zip values parts.locates) worker

-- a value for each worker, by its number
abbrev pub each_worker : {T : Type 0} → (ℕ → T) → ℕ → List T
each_worker f workers = map f (range_with_len 0 workers)

-- the values of all stocks of the parts, for each worker those of its stocks
abbrev pub AreByWorker : {T : Type 0} → DayParts → List T → List (List T) → Type 0
AreByWorker parts values lists =
    (length values ≡ length parts.locates) × (lists ≡ each_worker (own_values parts values) parts.workers)
