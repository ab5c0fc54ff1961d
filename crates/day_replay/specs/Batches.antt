-- The machines of the stocks of one batch, after some messages of these stocks. All is of this project.
use Rattle.std.specs.Prelude.{◌≡◌, ◌+◌, ◌*◌, ◌<◌, ◌^◌, ◌++◌, ℕ, All, Bool, true, false, List, [], ◌∷◌, Option, Some, None, length, slice_index_or}
use Rattle.itch_table.specs.declared.outcome.Outcome.{Outcome}
use Rattle.itch_table.specs.AnyWorld.{after_all}
use Rattle.itch_table.specs.Parts.{part}
use Rattle.itch_table.specs.Projection.{stock_day}
use Rattle.itch_table.specs.Table.{step}
use Rattle.itch_table.specs.World.{World, empty_world}
use Rattle.stock_machine.specs.StockRows.{StockMachine}
use Rattle.day_replay.specs.declared.TheConstants.{BATCHES, STOCKS}
use Rattle.day_replay.specs.declared.refusals.RefusedMessage.{RefusedMessage}
use Rattle.day_replay.specs.Messages.{is_of_batch, payloads_in}
use Rattle.day_replay.specs.NoStock.{if_refused}
use Rattle.day_replay.specs.Summaries.{stock_of}

-- the machines of a batch, each in the slot of its stock, those of its messages that were refused, and whether memory
-- was refused to it
pub record BatchState : Type 0 where
  pub stocks : List (Option StockMachine)
  pub refused : List RefusedMessage
  pub failed : Bool

-- ---- one stock

-- a stock's machine after its own messages: it has none before the first
abbrev pub machine_after : ℕ → List (List ℕ) → Option StockMachine
machine_after locate [] = None
machine_after locate (payload ∷ payloads) = Some (record {
  locate = locate;
  world = after_all empty_world (payload ∷ payloads);
  steps = length (payload ∷ payloads);
})

-- a stock's rows by its machine
abbrev pub world_in : Option StockMachine → World
world_in None = empty_world
world_in (Some machine) = machine.world

-- how many messages a stock's machine has taken
abbrev pub steps_in : Option StockMachine → ℕ
steps_in None = 0
steps_in (Some machine) = machine.steps

-- what becomes of a stock's message
abbrev pub outcome_in : Option StockMachine → List ℕ → Outcome
outcome_in slot payload = (step (world_in slot) payload).0

-- a stock's machine after a message
abbrev pub stepped : ℕ → Option StockMachine → List ℕ → StockMachine
stepped locate slot payload = record {
  locate = locate;
  world = (step (world_in slot) payload).1;
  steps = steps_in slot + 1;
}

-- ---- all stocks of a batch

-- the stock whose machine is in a slot of a batch
abbrev pub locate_at : ℕ → ℕ → ℕ
locate_at batch slot = slot * BATCHES + batch

-- the refused ones of messages, the first of which comes in this world
abbrev pub refused_from : World → List (ℕ × List ℕ) → List RefusedMessage
refused_from w [] = []
refused_from w (message ∷ messages) =
    if_refused message.0 (stock_of (part message.1)) (step w message.1).0
    ++ refused_from (step w message.1).1 messages

-- a batch has done these messages of its stocks: it has the machine of each stock after them, and those that were refused
pub record HasDone (batch : ℕ) (messages : List (ℕ × List ℕ)) (state : BatchState) : Type 0 where
  pub machines_are : (slot : ℕ) (d : Option StockMachine) → slot < STOCKS
      → slice_index_or state.stocks slot d
      ≡ machine_after (locate_at batch slot) (stock_day (payloads_in messages) (locate_at batch slot))
  pub refused_are : state.refused ≡ refused_from empty_world messages

-- all these messages are of the stocks of a batch
abbrev pub AreOwn : ℕ → List (ℕ × List ℕ) → Type 0
AreOwn batch messages = All (λ m. is_of_batch batch m ≡ true) messages

-- a batch may do these messages: they are of its stocks, and with those before them they are fewer than 2^32
pub record MayDo (messages : List (ℕ × List ℕ)) (state : BatchState) : Type 0 where
  pub batch : ℕ
  pub before : List (ℕ × List ℕ)
  pub done : HasDone batch before state
  pub own : AreOwn batch messages
  pub few : length before + length messages < 2 ^ 32

-- a batch does these messages after those before
abbrev pub Does : List (ℕ × List ℕ) → BatchState → BatchState → Type 0
Does messages old new =
    (batch : ℕ) (before : List (ℕ × List ℕ)) → HasDone batch before old → AreOwn batch messages
    → HasDone batch (before ++ messages) new

-- a batch does these messages, or has failed
abbrev pub DoesOrFails : List (ℕ × List ℕ) → BatchState → BatchState → Type 0
DoesOrFails messages old new = new.failed ≡ false → Does messages old new
