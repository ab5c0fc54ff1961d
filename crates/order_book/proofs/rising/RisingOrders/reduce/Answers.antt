use Rattle.std.proofs.Common.{◌≡◌, ◌-◌, ◌≤◌, Some, ap, arith, sym, ◌∙◌}
use Rattle.std.specs.FinMap as maps
use Rattle.itch_table.specs.declared.order.OrderRow.{OrderRow}
use Rattle.order_book.specs.Parts.{IsLiveAt}
use Rattle.order_book.proofs.RisingLists.{found, lowered, still_rising}
use Rattle.order_book.proofs.rising.RisingOrders.reduce.Goals as goal
use Rattle.order_book.proofs.rising.RisingOrders.reduce.Goals.{After-row-row}

at : (g : _) (c : After-row-row g) → IsLiveAt c.self.inside.first c.self.inside.rows.items c.args.reference c.in_ok-index.index
at g c = rw c.deref.ensures.value at c.in_ok-index.ensures.found

there : (g : _) (c : After-row-row g) → maps.get c.args.self.now c.args.reference ≡ Some c.row-row.result
there g c =
    rw (← c.self.view_is) (
    found c.self.inside.first c.self.inside.rows.items c.in_ok-index.index c.args.reference c.index_mut-risen.result.now c.self.invariant.1 (at g c) c.index_mut-risen.ensures.value
    ∙ ap Some (sym c.row-row.ensures)
    )

enough : (g : _) (c : After-row-row g) → c.args.shares ≤ c.index_mut-risen.result.now.shares
enough g c =
    let has = rw (there g c) at c.requires in
    omega (arith, has, ap (λ (row : OrderRow). row.shares) c.row-row.ensures)

pub overflow_sub-risen : goal.overflow_sub-risen
overflow_sub-risen g c = enough g c

pub invariant_of-self : goal.invariant_of-self
invariant_of-self g c =
    let before = (goal.at.invariant_of-self g c).After-row-row in
    (c.self.invariant.0, still_rising c.self.inside.first c.self.inside.rows.items c.in_ok-index.index c.args.reference c.index_mut-risen.result.now c.self.invariant.1 (at g before) c.index_mut-risen.ensures.value (c.index_mut-risen.result.now.shares - c.args.shares))

pub invariant_of-self-else-row-shares : goal.invariant_of-self-else-row-shares
invariant_of-self-else-row-shares g c =
    let before = (goal.at.invariant_of-self-else-row-shares g c).After-row-row in
    (c.self.invariant.0, still_rising c.self.inside.first c.self.inside.rows.items c.in_ok-index.index c.args.reference c.index_mut-risen.result.now c.self.invariant.1 (at g before) c.index_mut-risen.ensures.value (c.index_mut-risen.result.now.shares - c.args.shares))

pub returns-then-row-shares-clause-row : goal.returns-then-row-shares-clause-row
returns-then-row-shares-clause-row g c = sym (there g (goal.at.returns-then-row-shares-clause-row g c).After-row-row)

pub returns-then-row-shares-clause-left : goal.returns-then-row-shares-clause-left
returns-then-row-shares-clause-left g c =
    let before = (goal.at.returns-then-row-shares-clause-left g c).After-row-row in
    rw (c.sweep.ensures, ← c.self.view_is, c.row-row.ensures) (
    lowered c.self.inside.first c.self.inside.rows.items c.in_ok-index.index c.args.reference c.index_mut-risen.result.now c.self.invariant.1 (at g before) c.index_mut-risen.ensures.value c.args.shares (enough g before)
    )

pub returns-else-row-shares-clause-row : goal.returns-else-row-shares-clause-row
returns-else-row-shares-clause-row g c = sym (there g (goal.at.returns-else-row-shares-clause-row g c).After-row-row)

pub returns-else-row-shares-clause-left : goal.returns-else-row-shares-clause-left
returns-else-row-shares-clause-left g c =
    let before = (goal.at.returns-else-row-shares-clause-left g c).After-row-row in
    rw (← c.self.view_is, c.row-row.ensures) (
    lowered c.self.inside.first c.self.inside.rows.items c.in_ok-index.index c.args.reference c.index_mut-risen.result.now c.self.invariant.1 (at g before) c.index_mut-risen.ensures.value c.args.shares (enough g before)
    )
