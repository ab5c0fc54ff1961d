-- A book's live orders, and what its calls change of them.
-- Nasdaq TotalView-ITCH 5.0, "Add Order Message" and "Modify Order Messages".
use Rattle.std.specs.Prelude.{ℕ, ◌-◌, ◌==◌, if◌then◌else◌, List, map, Option}
use Rattle.std.specs.Option.{option_map, unwrap_or}
use Rattle.std.specs.Ordering.{nat_cmp}
use Rattle.std.specs.FinMap as maps
use Rattle.std.specs.FinMap.{FinMap}
use Rattle.itch_table.specs.declared.order.Order.{Order}
use Rattle.itch_table.specs.declared.order.OrderRow.{OrderRow}
use Rattle.itch_table.specs.Table.{no_order}
use Rattle.itch_table.specs.World.{order_under, row_of}

-- a book's live orders: a row under each reference
abbrev pub Orders : Type 0
Orders = FinMap nat_cmp OrderRow

-- the order that lives under a reference
abbrev pub order_in : Orders → ℕ → Option Order
order_in orders reference = option_map (order_under reference) (maps.get orders reference)

-- the live orders, by rising reference
abbrev pub orders_in : Orders → List Order
orders_in orders = map (λ e. order_under e.0 e.1) (maps.entries orders)

-- an order more
abbrev pub added : Orders → Order → Orders
added orders order = maps.insert orders order.reference (row_of order)

-- the row of an order that lives
abbrev pub row_in : Orders → ℕ → OrderRow
row_in orders reference = unwrap_or (maps.get orders reference) no_order

-- shares come off an order with this row, which is gone where none are left
abbrev pub reduced_by : Orders → ℕ → OrderRow → ℕ → Orders
reduced_by orders reference row shares =
    if row.shares == shares then maps.remove orders reference
    else maps.insert orders reference (record row { shares = row.shares - shares })

-- shares come off the order under a reference
abbrev pub reduced : Orders → ℕ → ℕ → Orders
reduced orders reference shares = reduced_by orders reference (row_in orders reference) shares

-- a new order has the old side and attribution, and the old one is gone
abbrev pub replaced : Orders → ℕ → ℕ → ℕ → ℕ → Orders
replaced orders old new shares price =
    maps.insert (maps.remove orders old) new
    (record (row_in orders old) { shares = shares; price = price })
