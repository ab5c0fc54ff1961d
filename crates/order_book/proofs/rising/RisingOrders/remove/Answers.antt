use Rattle.std.proofs.Common.{Some, ap, sym, ◌∙◌}
use Rattle.std.specs.Cmp.{nat_cmp_total}
use Rattle.std.specs.FinMap.{nat_cmp-IsAntisymmetric}
use Rattle.order_book.specs.Parts.{IsLiveAt}
use Rattle.order_book.proofs.Maps.{remove_absent}
use Rattle.order_book.proofs.RisingLists.{found, removed, still_rising}
use Rattle.order_book.proofs.rising.RisingOrders.remove.Goals as goal
use Rattle.order_book.proofs.rising.RisingOrders.remove.Goals.{After-row-row}

at : (g : _) (c : After-row-row g) → IsLiveAt c.self.inside.first c.self.inside.rows.items c.args.reference c.in_ok-index.index
at g c = rw c.deref.ensures.value at c.in_ok-index.ensures.found

pub returns-in_err-index-clause-gone : goal.returns-in_err-index-clause-gone
returns-in_err-index-clause-gone g c =
    let none = rw (c.deref.ensures.value, c.self.view_is) at c.in_err-index.ensures.none in
    sym (remove_absent nat_cmp_total nat_cmp-IsAntisymmetric c.args.self.now c.args.reference none)

pub invariant_of-self : goal.invariant_of-self
invariant_of-self g c =
    let before = (goal.at.invariant_of-self g c).After-row-row in
    (c.self.invariant.0, still_rising c.self.inside.first c.self.inside.rows.items c.in_ok-index.index c.args.reference c.index_mut-risen.result.now c.self.invariant.1 (at g before) c.index_mut-risen.ensures.value 0)

pub returns-clause-row : goal.returns-clause-row
returns-clause-row g c =
    let before = (goal.at.returns-clause-row g c).After-row-row in
    let there = found c.self.inside.first c.self.inside.rows.items c.in_ok-index.index c.args.reference c.index_mut-risen.result.now c.self.invariant.1 (at g before) c.index_mut-risen.ensures.value in
    rw (← c.self.view_is) (ap Some c.row-row.ensures ∙ sym there)

pub returns-clause-gone : goal.returns-clause-gone
returns-clause-gone g c =
    let before = (goal.at.returns-clause-gone g c).After-row-row in
    rw (c.sweep.ensures, ← c.self.view_is) (
    removed c.self.inside.first c.self.inside.rows.items c.in_ok-index.index c.args.reference c.index_mut-risen.result.now c.self.invariant.1 (at g before) c.index_mut-risen.ensures.value
    )
