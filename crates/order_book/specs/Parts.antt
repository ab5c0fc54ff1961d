-- The two parts in which a book keeps its orders: a list by rising reference, and the others.
use Rattle.std.specs.Prelude.{◌≡◌, ℕ, ◌+◌, ◌-◌, ◌<◌, ◌≤◌, ◌^◌, ◌==◌, ◌++◌, nat_eq, nat_lt, if◌then◌else◌, Bool, not, List, length, map, Option, Some, None}
use Rattle.std.specs.Cmp.Lexicographic.{pointwise}
use Rattle.std.specs.Ordering.{nat_cmp}
use Rattle.std.specs.List.{filter, HoldsAt}
use Rattle.std.specs.List.Sorted.{IsStrictlySortedBy}
use Rattle.std.specs.Option.{IsSome}
use Rattle.std.specs.FinMap as maps
use Rattle.itch_table.specs.declared.order.Order.{Order}
use Rattle.itch_table.specs.declared.order.OrderRow.{OrderRow}
use Rattle.itch_table.specs.declared.order.Side.{Side}
use Rattle.itch_table.specs.declared.order.Side.TheVariants.{Buy, Sell}
use Rattle.itch_table.specs.World.{order_under, row_of}
use Rattle.order_book.specs.declared.rising.RisenRow.{RisenRow}
use Rattle.order_book.specs.declared.rising.TheConstants.{ASK_MARK, NO_ATTRIBUTION}
use Rattle.order_book.specs.Orders.{Orders}

-- a reference at any distance from the first fits 64 bits
abbrev pub IsFirst : ℕ → Type 0
IsFirst first = first + 2 ^ 32 ≤ 2 ^ 64

-- the side that a price is marked with
abbrev pub side_in : ℕ → Side
side_in marked = if nat_lt marked ASK_MARK then Buy else Sell

-- the price without the mark
abbrev pub price_in : ℕ → ℕ
price_in marked = if nat_lt marked ASK_MARK then marked else marked - ASK_MARK

-- the attribution that four bytes stand for
abbrev pub attribution_in : List ℕ → Option (List ℕ)
attribution_in bytes = if pointwise nat_eq bytes NO_ATTRIBUTION then None else Some bytes

-- an order of the list, without its reference
abbrev pub without_distance : RisenRow → OrderRow
without_distance row = record {
  side = side_in row.marked_price;
  shares = row.shares;
  price = price_in row.marked_price;
  attribution = attribution_in row.attribution;
}

-- an order of the list, where distances are from this first reference
abbrev pub order_at : ℕ → RisenRow → Order
order_at first row = order_under (first + row.distance) (without_distance row)

-- each distance is above those before it
abbrev pub AreRising : List RisenRow → Type 0
AreRising rows = IsStrictlySortedBy (λ row other. nat_cmp row.distance other.distance) rows

-- whether an order of the list lives: one without shares is gone
abbrev pub has_shares : RisenRow → Bool
has_shares row = not (row.shares == 0)

-- an order as its reference and its row
abbrev pub entry_of : Order → ℕ × OrderRow
entry_of order = (order.reference, row_of order)

-- the orders of a list that live, each under its reference
abbrev pub live_in : ℕ → List RisenRow → Orders
live_in first rows = maps.from_entries (map (λ row. entry_of (order_at first row)) (filter has_shares rows))

-- an order of the list is at a lower distance
abbrev pub IsBelow : ℕ → RisenRow → Type 0
IsBelow distance row = row.distance < distance

-- an order of the list is at a higher distance
abbrev pub IsAbove : ℕ → RisenRow → Type 0
IsAbove distance row = distance < row.distance

-- the order at this index lives, and has this reference
abbrev pub IsLiveAt : ℕ → List RisenRow → ℕ → ℕ → Type 0
IsLiveAt first rows reference index =
    (index < length rows)
    × HoldsAt (λ row. (first + row.distance ≡ reference) × (0 < row.shares)) rows index

-- the orders of both parts
abbrev pub joined : Orders → Orders → Orders
joined some others = maps.from_entries (maps.entries some ++ maps.entries others)

-- no reference is live in both parts
abbrev pub AreApart : Orders → Orders → Type 0
AreApart some others = (reference : ℕ) → IsSome (maps.get some reference) → maps.get others reference ≡ None

-- orders in two parts, and how many they are
abbrev pub IsTable : Orders → Orders → ℕ → Type 0
IsTable some others count = AreApart some others × (count ≡ maps.len (joined some others))
