use Rattle.std.proofs.Common.{◌≤◌, ap, arith, ◌∙◌}
use Rattle.std.specs.List.{All}
use Rattle.itch_table.specs.declared.order.Order.{Order}
use Rattle.order_book.specs.Orders.{added}
use Rattle.order_book.specs.Parts.{IsBelow}
use Rattle.order_book.proofs.RisingLists.{pushed, rising_pushed}
use Rattle.order_book.proofs.rising.RisingOrders.push.Goals as goal
use Rattle.order_book.proofs.rising.RisingOrders.push.Goals.{After-push}

below : (g : _) (c : After-push g) → All (IsBelow c.in-Some.row.distance) c.self.inside.rows.items
below g c =
    let all = c.is_above_all.ensures c.if-is_above_all.true in
    rw c.deref-2.ensures.value at all

pub invariant_of-self-2 : goal.invariant_of-self-2
invariant_of-self-2 g c =
    let before = (goal.at.invariant_of-self-2 g c).After-push in (
      c.first_with-first.ensures.fits,
      rw c.in_ok-push.ensures.items (rising_pushed c.first_with-first.result c.self.inside.rows.items c.in-Some.row c.self.invariant.1 (below g before)),
    )

pub returns-clause-ok : goal.returns-clause-ok
returns-clause-ok g c =
    let before = (goal.at.returns-clause-ok g c).After-push in
    let some : 1 ≤ c.in-Some.row.shares = omega (arith, c.requires, ap (λ (order : Order). order.shares) c.in-Some.ensures) in
    let same = rw c.deref.ensures.value at c.first_with-first.ensures.same in
    rw (c.in_ok-push.ensures.items, ← c.self.view_is) (
    pushed c.first_with-first.result c.self.inside.rows.items c.in-Some.row c.self.invariant.1 (below g before) some
    ∙ (λ i. added (same i) (c.in-Some.ensures i))
    )
