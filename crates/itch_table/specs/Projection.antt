-- The rows of one stock, and that its messages read and change these alone. All is of this project.
use Rattle.std.specs.Prelude.{◌≡◌, ◌≢◌, ◌<◌, ◌≤◌, ◌-◌, ◌==◌, ℕ, Bool, false, List, [], filter, take, count_by, Option, Some, None, slice_index_or}
use Rattle.std.specs.FinMap as maps
use Rattle.itch_layouts.specs.Shapes.{shape_of}
use Rattle.itch_layouts.specs.declared.message.Msg.TheVariants.{System}
use Rattle.itch_layouts.specs.declared.shape.Shape.{Shape}
use Rattle.itch_layouts.specs.declared.shape.Shape.TheVariants.{Known}
use Rattle.itch_table.specs.declared.outcome.Outcome.{Outcome}
use Rattle.itch_table.specs.declared.outcome.Part.{Part}
use Rattle.itch_table.specs.declared.outcome.Part.TheVariants.{Locate, Nowhere}
use Rattle.itch_table.specs.World.{World, is_under}
use Rattle.itch_table.specs.Table.{step}
use Rattle.itch_table.specs.Parts.{part}
use Rattle.itch_table.specs.After.{after, outcome}

-- the rows of one stock: its orders, the references that they have had, its trades and what is known of it, without
-- the event, which is of no stock
unfoldable pub only : ℕ → World → World
only locate w = record {
  orders = maps.retain_keys w.orders (is_under locate);
  spent = maps.retain_keys w.spent (is_under locate);
  trades = filter (λ row. row.0 == locate) w.trades;
  stocks = maps.retain_keys w.stocks (λ code. code == locate);
  event = None;
}

-- ---- one payload

-- a stock's message has the same outcome on this stock's rows alone, and changes them alike
abbrev pub StepsAreOwn : Type 0
StepsAreOwn =
    (w : World) (payload : List ℕ) (locate : ℕ) → part payload ≡ Locate locate
    → step (only locate w) payload ≡ ((step w payload).0, only locate (step w payload).1)

-- every other payload leaves a stock's rows as they are
abbrev pub OthersStay : Type 0
OthersStay =
    (w : World) (payload : List ℕ) (locate : ℕ) → part payload ≢ Locate locate
    → only locate (step w payload).1 ≡ only locate w

-- a payload of no stock has the same outcome in every world
abbrev pub OutcomesAreFixed : Type 0
OutcomesAreFixed =
    (w : World) (payload : List ℕ) (fixed : Outcome) → part payload ≡ Nowhere fixed
    → (step w payload).0 ≡ fixed

-- the event of a system message, or the one before where there is no such message
abbrev pub event_with : Shape → Option ℕ → Option ℕ
event_with (Known (System head m)) before = Some m.event
event_with shape before = before

-- a system message sets the event, and nothing else changes it
abbrev pub SystemSetsEvent : Type 0
SystemSetsEvent =
    (w : World) (payload : List ℕ) → (step w payload).1.event ≡ event_with (shape_of payload) w.event

-- ---- a day

-- the payload of message n of a day, for n from 1
abbrev pub payload_at : List (List ℕ) → ℕ → List ℕ
payload_at day n = slice_index_or day (n - 1) []

-- whether a part is this stock's
abbrev pub is_locate : ℕ → Part → Bool
is_locate locate (Locate other) = other == locate
is_locate locate (Nowhere fixed) = false

-- whether a payload is a message of this stock
abbrev pub is_of_stock : ℕ → List ℕ → Bool
is_of_stock locate payload = is_locate locate (part payload)

-- a stock's own messages of a day, in their order, as a day of their own
unfoldable pub stock_day : List (List ℕ) → ℕ → List (List ℕ)
stock_day day locate = filter (is_of_stock locate) day

-- how many of the first n messages of a day are the stock's
unfoldable pub steps_of : List (List ℕ) → ℕ → ℕ → ℕ
steps_of day locate n = count_by (is_of_stock locate) (take n day)

-- after n messages of a day a stock's rows are all that its own messages among them make alone
abbrev pub RowsAreOwn : Type 0
RowsAreOwn =
    (day : List (List ℕ)) (locate n : ℕ)
    → only locate (after day n) ≡ after (stock_day day locate) (steps_of day locate n)

-- a stock's message has the outcome that it has among this stock's own messages alone
abbrev pub OutcomesAreOwn : Type 0
OutcomesAreOwn =
    (day : List (List ℕ)) (locate n : ℕ) → 0 < n → part (payload_at day n) ≡ Locate locate
    → outcome day n ≡ outcome (stock_day day locate) (steps_of day locate n)

-- no message after number from, up to number to, is the stock's
abbrev pub IsQuiet : List (List ℕ) → ℕ → ℕ → ℕ → Type 0
IsQuiet day locate from to = (n : ℕ) → from < n → n ≤ to → part (payload_at day n) ≢ Locate locate

-- a stock's rows stay as they are while none of its messages comes
abbrev pub RowsStandStill : Type 0
RowsStandStill =
    (day : List (List ℕ)) (locate from to : ℕ) → from ≤ to → IsQuiet day locate from to
    → only locate (after day to) ≡ only locate (after day from)
