use Rattle.std.proofs.Common.{arith}
use Rattle.std.specs.FinMap.{entries, len-entries}
use Rattle.std.proofs.lemmas.List.{length-map}
use Rattle.order_book.proofs.RowViews.{under}
use Rattle.order_book.proofs.book.Book.orders.Goals as goal

pub returns-clause-few : goal.returns-clause-few
returns-clause-few g c =
    let orders = c.self.inside.orders in
    rw (← c.self.view_is) (omega (arith, c.self.invariant.0, len-entries orders, length-map (entries orders) under))
