-- A replay of the first messages of a day. All is of this project.
use Rattle.std.specs.Prelude.{◌≡◌, ◌<◌, ◌≤◌, ◌%◌, ◌/◌, ℕ, List, Option, length, slice_index_or}
use Rattle.stock_machine.specs.StockRows.{StockMachine}
use Rattle.day_replay.specs.declared.TheConstants.{BATCHES}
use Rattle.day_replay.specs.Batches.{BatchState, HasDone}
use Rattle.day_replay.specs.Messages.{numbered_after, of_batch}
use Rattle.day_replay.specs.NoStock.{NoStockFacts, no_stock_of}

-- the batches, what is known of the messages of no stock, and how many messages were replayed
pub record ReplayState : Type 0 where
  pub batches : List BatchState
  pub no_stock : NoStockFacts
  pub messages : ℕ

-- each batch has done the messages of a day that are of its stocks
abbrev pub AreAfter : List (List ℕ) → List BatchState → Type 0
AreAfter day batches =
    (batch : ℕ) (d : BatchState) → batch < BATCHES
    → HasDone batch (of_batch batch (numbered_after 0 day)) (slice_index_or batches batch d)

-- the messages of a day were replayed
pub record HasReplayed (day : List (List ℕ)) (replay : ReplayState) : Type 0 where
  pub batches_are : AreAfter day replay.batches
  pub no_stock_is : replay.no_stock ≡ no_stock_of (numbered_after 0 day)
  pub messages_are : replay.messages ≡ length day

-- from a locate code on the batches hold these machines
abbrev pub Hold : (ℕ → Option StockMachine) → ℕ → List BatchState → Type 0
Hold machine from batches =
    (locate : ℕ) (b : BatchState) (d : Option StockMachine) → from ≤ locate → locate < 0x1_0000
    → slice_index_or (slice_index_or batches (locate % BATCHES) b).stocks (locate / BATCHES) d
    ≡ machine locate
