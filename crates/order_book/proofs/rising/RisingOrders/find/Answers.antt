use Rattle.std.proofs.Common.{Some, sym, ap, ◌∙◌}
use Rattle.order_book.proofs.RisingLists.{found}
use Rattle.order_book.proofs.rising.RisingOrders.find.Goals as goal

pub returns : goal.returns
returns g c =
    let at = rw c.deref.ensures.value at c.in_ok-index.ensures.found in
    let there = found c.self.inside.first c.self.inside.rows.items c.in_ok-index.index c.args.reference c.index.result.now c.self.invariant.1 at c.index.ensures in
    rw (← c.self.view_is) (ap Some c.row.ensures ∙ sym there)
