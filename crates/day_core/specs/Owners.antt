-- Which worker each message of a day belongs to, and how far a stock is once its worker has done some of its
-- messages. All is of this project.
use Rattle.std.specs.Prelude.{◌≡◌, ◌==◌, ◌%◌, ◌-◌, ◌<◌, ◌≤◌, ℕ, Bool, true, false, IsTrue, List, [], ◌∷◌, Some, length, map, filter, slice_index, take}
use Rattle.std.specs.List.{range_with_len}
use Rattle.itch_layouts.specs.Shapes.{shape_of}
use Rattle.itch_table.specs.declared.outcome.Outcome.TheVariants.{Applied}
use Rattle.itch_table.specs.declared.outcome.Part.{Part}
use Rattle.itch_table.specs.declared.outcome.Part.TheVariants.{Locate, Nowhere}
use Rattle.itch_table.specs.After.{after, outcome}
use Rattle.itch_table.specs.Machine.{shape_adds_row}
use Rattle.itch_table.specs.Parts.{part}
use Rattle.itch_table.specs.Projection.{is_locate, only, payload_at, steps_of}
use Rattle.itch_table.specs.World.{empty_world}
use Rattle.stock_machine.specs.StockRows.{StockMachine}
use Rattle.day_core.specs.declared.merging.Piece.{Piece}
use Rattle.day_core.specs.declared.parts.Next.{Next}

-- the part of message n of a day, for n from 1
abbrev pub part_at : List (List ℕ) → ℕ → Part
part_at day n = part (payload_at day n)

-- a stock belongs to the worker whose number is the remainder of its locate code by the number of workers
abbrev pub owner : ℕ → ℕ → ℕ
owner workers locate = locate % workers

-- whether a part is a stock of this worker
abbrev pub is_own : ℕ → ℕ → Part → Bool
is_own workers worker (Locate locate) = owner workers locate == worker
is_own workers worker (Nowhere fixed) = false

-- those of the first messages that belong to a worker, by their numbers, rising
abbrev pub own_until : ℕ → ℕ → List (List ℕ) → ℕ → List ℕ
own_until workers worker day count =
    filter (λ n. is_own workers worker (part_at day n)) (range_with_len 1 count)

-- a worker's messages, by their numbers, rising
unfoldable pub own_of : ℕ → ℕ → List (List ℕ) → List ℕ
own_of workers worker day = own_until workers worker day (length day)

-- those of some locate codes that belong to a worker
abbrev pub locates_by : ℕ → ℕ → List ℕ → List ℕ
locates_by workers worker locates = filter (λ locate. owner workers locate == worker) locates

-- a message of a day with its outcome
abbrev pub piece_of : List (List ℕ) → ℕ → Piece
piece_of day n = record { message = n; outcome = outcome day n }

-- whether a part is no stock's
abbrev pub is_nowhere : Part → Bool
is_nowhere (Locate locate) = false
is_nowhere (Nowhere fixed) = true

-- those of the first messages that are of no stock, with their outcomes, rising
abbrev pub fixed_until : List (List ℕ) → ℕ → List Piece
fixed_until day count = map (piece_of day) (filter (λ n. is_nowhere (part_at day n)) (range_with_len 1 count))

-- the messages of no stock with their outcomes, rising
unfoldable pub fixed_pieces : List (List ℕ) → List Piece
fixed_pieces day = fixed_until day (length day)

-- the message that a worker does after this many of its own, and the message's stock
pub record IsNext (day : List (List ℕ)) (workers worker done : ℕ) (next : Next) : Type 0 where
  pub more : done < length (own_of workers worker day)
  pub message_is : next.message ≡ slice_index (own_of workers worker day) done
  pub stock_is : part_at day next.message ≡ Locate next.locate
  pub fits : next.locate < 0x1_0000

-- ---- how far a stock is

-- the last of some numbers, or this one where there are none
abbrev pub last_or : ℕ → List ℕ → ℕ
last_or d [] = d
last_or d (x ∷ xs) = last_or x xs

-- those of some messages that are of a stock
abbrev pub of_stock : List (List ℕ) → ℕ → List ℕ → List ℕ
of_stock day locate numbers = filter (λ n. is_locate locate (part_at day n)) numbers

-- the last message of a stock among the first of a day, or 0
abbrev pub last_until : List (List ℕ) → ℕ → ℕ → ℕ
last_until day locate count = last_or 0 (of_stock day locate (range_with_len 1 count))

-- the last message of a stock in a day, or 0
abbrev pub last_message : List (List ℕ) → ℕ → ℕ
last_message day locate = last_until day locate (length day)

-- the last message of a stock among the first messages that its owner has done, or 0
unfoldable pub progress : List (List ℕ) → ℕ → ℕ → ℕ → ℕ
progress day workers locate done =
    last_or 0 (of_stock day locate (take done (own_of workers (owner workers locate) day)))

-- a stock's machine after the first n messages of a day
abbrev pub machine_of : List (List ℕ) → ℕ → ℕ → StockMachine
machine_of day locate n = record {
  locate = locate;
  world = only locate (after day n);
  steps = steps_of day locate n;
}

-- a stock's machine before the first message
abbrev pub new_machine : ℕ → StockMachine
new_machine locate = record { locate = locate; world = empty_world; steps = 0 }

-- message n of a day is of this machine's stock, and the machine has done those of its messages that come before
pub record IsDue (day : List (List ℕ)) (n : ℕ) (m : StockMachine) : Type 0 where
  pub some : 1 ≤ n
  pub within : n ≤ length day
  pub own : part_at day n ≡ Locate m.locate
  pub before : m ≡ machine_of day m.locate (n - 1)

-- a message of a day may need memory: it would be applied, and its kind may need a new row
pub record MayAddRow (day : List (List ℕ)) (n : ℕ) : Type 0 where
  pub applied : outcome day n ≡ Applied
  pub adds : (locate : ℕ) → part_at day n ≡ Locate locate
      → IsTrue (shape_adds_row (Some locate) (shape_of (payload_at day n)))
