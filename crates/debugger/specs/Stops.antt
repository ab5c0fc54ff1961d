-- Where a breakpoint stops: a property of the day alone. All is of this project; the fields are those of
-- Nasdaq TotalView-ITCH 5.0, "Message Formats".
use Rattle.std.specs.Prelude.{ℕ, List, ◌==◌, ◌&&◌, ◌-◌, ◌++◌, nat_le, length, filter, take, not, Bool, false, Option, position}
use Rattle.std.specs.List.{list_any, range_with_len}
use Rattle.std.specs.Hash as fed
use Rattle.itch_layouts.specs.Means.{fields_of}
use Rattle.itch_layouts.specs.References.{references}
use Rattle.itch_layouts.specs.Shapes.{shape_of}
use Rattle.itch_layouts.specs.declared.shape.Shape.{Shape}
use Rattle.itch_layouts.specs.declared.shape.Shape.TheVariants.{Known}
use Rattle.itch_table.specs.declared.order.Side.{Side}
use Rattle.itch_table.specs.declared.order.Side.TheVariants.{Buy, Sell}
use Rattle.itch_table.specs.After.{after}
use Rattle.itch_table.specs.Levels.{shares_at}
use Rattle.itch_table.specs.Projection.{payload_at}
use Rattle.itch_table.specs.World.{orders_of}
use Rattle.debugger.specs.declared.breakpoint.Break.{Break}
use Rattle.debugger.specs.declared.breakpoint.Break.TheVariants.{Price, Reference, Time}

-- ---- what a payload says

-- whether it is a message of this locate code that names an order by this reference
abbrev pub names : ℕ → ℕ → Shape → Bool
names locate reference (Known m) =
    ((fields_of m).head.locate == locate) && list_any (λ r. r == reference) (references m)
names locate reference shape = false

-- whether it is a message of at least this time
abbrev pub reaches : ℕ → Shape → Bool
reaches time (Known m) = nat_le time (fields_of m).head.time
reaches time shape = false

-- ---- where a breakpoint stops

-- the shares at a side and a price of a stock after the first n messages of a day
unfoldable pub shares_after : List (List ℕ) → ℕ → Side → ℕ → ℕ → ℕ
shares_after day locate side price n = shares_at (orders_of (after day n) locate) side price

-- whether message n changes the shares at a side and a price of a stock
abbrev pub changes : ℕ → Side → ℕ → List (List ℕ) → ℕ → Bool
changes locate side price day n =
    not (shares_after day locate side price n == shares_after day locate side price (n - 1))

-- whether message n is the first of at least this time
unfoldable pub first_reaches : ℕ → List (List ℕ) → ℕ → Bool
first_reaches time day n =
    reaches time (shape_of (payload_at day n))
    && not (list_any (λ payload. reaches time (shape_of payload)) (take (n - 1) day))

-- whether a breakpoint stops at message n of a day, for n from 1
abbrev pub stop : Break → List (List ℕ) → ℕ → Bool
stop (Price locate side price) day n = changes locate side price day n
stop (Reference locate reference) day n = names locate reference (shape_of (payload_at day n))
stop (Time time) day n = first_reaches time day n

-- the messages of a day at which a breakpoint stops, by their numbers, rising
unfoldable pub stops_of : List (List ℕ) → Break → List ℕ
stops_of day breakpoint = filter (stop breakpoint day) (range_with_len 1 (length day))

-- the index, counted from 0, of the first of some breakpoints that stops at message n
abbrev pub hit : List Break → List (List ℕ) → ℕ → Option ℕ
hit breaks day n = position (λ breakpoint. stop breakpoint day n) breaks

-- whether one of some breakpoints stops at message n
abbrev pub stops_at : List Break → List (List ℕ) → ℕ → Bool
stops_at breaks day n = list_any (λ breakpoint. stop breakpoint day n) breaks

-- ---- how a breakpoint is hashed

-- 0 for a bid and 1 for an ask
abbrev pub side_code : Side → ℕ
side_code Buy = 0
side_code Sell = 1

-- the numbers that a hash of a breakpoint is made of
abbrev pub hash_words : Break → List (List ℕ)
hash_words (Price locate side price) = fed.u16 locate ++ (fed.u8 (side_code side) ++ fed.u32 price)
hash_words (Reference locate reference) = fed.u16 locate ++ fed.u64 reference
hash_words (Time time) = fed.u64 time
