use Rattle.std.proofs.Common.{◌≡◌, ◌++◌, take}
use Rattle.std.specs.List.{flat_map}
use Rattle.stock_text.specs.Orders.{order_line}
use Rattle.stock_text.proofs.sessions.put_orders.Given as goal

abbrev pub invariant-loop-order : goal.invariant-loop-order
invariant-loop-order g l = l.text.items ≡ l.fn.text.items ++ flat_map order_line (take l.order-index l.orders)
