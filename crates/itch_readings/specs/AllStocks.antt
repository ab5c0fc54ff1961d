-- The messages of all stocks of a day, in the file's order, and notes of them. All is of this project.
use Rattle.std.specs.Prelude.{◌≡◌, ◌<◌, ◌≤◌, ℕ, List, [], ◌∷◌, length, Option, Some, None, slice_index_or, slice_set}
use Rattle.std.specs.List.{flat_map, range_with_len}
use Rattle.itch_table.specs.declared.outcome.Part.{Part}
use Rattle.itch_table.specs.declared.outcome.Part.TheVariants.{Locate, Nowhere}
use Rattle.itch_table.specs.After.{after}
use Rattle.itch_table.specs.Parts.{part}
use Rattle.itch_table.specs.Projection.{only, payload_at}
use Rattle.itch_table.specs.World.{empty_world}
use Rattle.stock_machine.specs.StockRows.{StockMachine}
use Rattle.itch_readings.specs.Noting.{NotesNext, Noting}
use Rattle.itch_readings.specs.OwnMessages.{OwnMessage, own_at}

-- ---- messages

-- message n of a day, as one of the stock that it is of
abbrev pub own_by : List (List ℕ) → ℕ → Part → List OwnMessage
own_by day n (Locate locate) = own_at day locate n ∷ []
own_by day n (Nowhere fixed) = []

-- the messages of stocks among the first n
abbrev pub own_until : List (List ℕ) → ℕ → List OwnMessage
own_until day n = flat_map (λ k. own_by day k (part (payload_at day k))) (range_with_len 1 n)

-- the messages of all stocks of a day
abbrev pub own_all : List (List ℕ) → List OwnMessage
own_all day = own_until day (length day)

-- ---- machines

-- a stock's machine by its slot: a new one before the stock's first message
abbrev pub machine_in : ℕ → Option StockMachine → StockMachine
machine_in locate None = record { locate = locate; world = empty_world; steps = 0 }
machine_in locate (Some stock) = stock

-- the machine of a slot took the stock's next message, and it was noted
pub record NotesInSlot {N : Type 0} (AreOf : Noting N) (number : ℕ) (payload : List ℕ) (locate : ℕ)
    (old new : Option StockMachine) (notes more : N) : Type 0 where
  pub next : StockMachine
  pub new_is : new ≡ Some next
  pub notes_next : NotesNext AreOf number payload (machine_in locate old) next notes more

-- the same among the machines of all stocks
pub record NotesOne {N : Type 0} (AreOf : Noting N) (number : ℕ) (payload : List ℕ) (locate : ℕ)
    (old new : List (Option StockMachine)) (notes more : N) : Type 0 where
  pub next : StockMachine
  pub new_is : new ≡ slice_set old locate (Some next)
  pub notes_next :
      NotesNext AreOf number payload (machine_in locate (slice_index_or old locate None)) next notes more

-- this is the machine of a stock after a day; where there is none the stock has no rows
abbrev pub IsMachineOf : List (List ℕ) → ℕ → Option StockMachine → Type 0
IsMachineOf day locate None = only locate (after day (length day)) ≡ empty_world
IsMachineOf day locate (Some stock) =
    (stock.locate ≡ locate) × (stock.world ≡ only locate (after day (length day)))
    × (stock.steps ≤ length day)

-- so many messages of a day were taken: these are the machines of its stocks by locate code, and the messages of all stocks
-- were noted
pub record HasNotedAll {N : Type 0} (AreOf : Noting N) (first : N) (day : List (List ℕ))
    (machines : List (Option StockMachine)) (messages : ℕ) (notes : N) : Type 0 where
  pub long : length machines ≡ 0x1_0000
  pub counted : messages ≡ length day
  pub each : (locate : ℕ) (d : Option StockMachine) → locate < 0x1_0000
      → IsMachineOf day locate (slice_index_or machines locate d)
  pub noted : AreOf first notes (own_all day)
