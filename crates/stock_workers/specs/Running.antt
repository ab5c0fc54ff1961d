-- All workers of a day, and what each makes of its messages. All is of this project.
use Rattle.std.specs.Prelude.{◌≡◌, ◌<◌, ℕ, List, All, IfOk, Result, length, map, slice_index_or}
use Rattle.std.specs.declared.alloc.AllocError.{AllocError}
use Rattle.stock_machine.specs.StockRows.{StockMachine}
use Rattle.day_core.specs.declared.merging.Piece.{Piece}
use Rattle.day_core.specs.Owners.{last_message}
use Rattle.day_core.specs.Replaying.{each_worker, last_machine, own_values, pieces_by}
use Rattle.day_core.specs.Splitting.{DayParts}
use Rattle.top_cell.specs.Boards.{CellId, IsOn, WriterAt}
use Rattle.stock_workers.specs.Working.{WritersAt, codes_by}
use Rattle.stock_workers.specs.declared.fork_join.Finished.{Finished}
use Rattle.stock_workers.specs.declared.fork_join.Waiting.{Waiting}

-- a worker of the day, with these stocks, that hasn't started: their writers have published nothing, and are of the board
pub record IsWaiting (day : List (List ℕ)) (locates : List ℕ) (board : List CellId) (writers : List WriterAt)
    : Type 0 where
  pub none_done : WritersAt day (λ _. 0) locates writers
  pub on_board : All (λ w. IsOn board w.place) writers

-- all workers of a day before they start, in the order of their numbers, each with those of the writers that are its
-- stocks'
pub record AreWaiting {A : Type 0} (parts : DayParts) (writers : List WriterAt) (all : List (Waiting A))
    : Type 0 where
  pub numbers_are : map (λ w. w.worker) all ≡ each_worker (λ worker. worker) parts.workers
  pub writers_are : map (λ w. w.writers.items) all ≡ each_worker (own_values parts writers) parts.workers

-- a writer at the last message of its stock
abbrev pub at_last : List (List ℕ) → WriterAt → WriterAt
at_last day w = record w { message = last_message day w.place.locate }

-- what a worker makes of all its messages: what became of each, and the machines and the writers of its stocks after all
-- of them
pub record IsFinished (day : List (List ℕ)) (parts : DayParts) (worker : ℕ) (writers : List WriterAt)
    (pieces : List Piece) (stocks : List StockMachine) (after : List WriterAt) : Type 0 where
  pub pieces_are : pieces ≡ pieces_by day parts.workers worker
  pub stocks_are : stocks ≡ map (last_machine day) (codes_by parts worker)
  pub writers_are : after ≡ map (at_last day) writers

-- what all workers make, in the order of their numbers, where none was refused memory: these were the writers of the
-- day's stocks
pub record AreFinished {A : Type 0} (day : List (List ℕ)) (parts : DayParts) (writers : List WriterAt)
    (made : List (Result (Finished A) AllocError)) : Type 0 where
  pub long : length made ≡ parts.workers
  pub each : (worker : ℕ) (d : Result (Finished A) AllocError) → worker < parts.workers
      → IfOk (slice_index_or made worker d)
      (λ m. IsFinished day parts worker (own_values parts writers worker) m.pieces.items m.stocks.items
      m.writers.items)

-- what all workers made, put together by worker
pub record AreGathered (day : List (List ℕ)) (parts : DayParts) (writers : List WriterAt)
    (pieces : List (List Piece)) (stocks : List (List StockMachine)) (after : List (List WriterAt))
    : Type 0 where
  pub pieces_are : pieces ≡ each_worker (pieces_by day parts.workers) parts.workers
  pub stocks_are : stocks ≡ each_worker (λ w. map (last_machine day) (codes_by parts w)) parts.workers
  pub writers_are : after ≡ each_worker (λ w. map (at_last day) (own_values parts writers w)) parts.workers
