use Rattle.std.proofs.Common.{◌≡◌, Some, None, refl, sym, ◌∙◌}
use Rattle.std.specs.Ordering.{nat_cmp}
use Rattle.std.specs.Cmp.{nat_cmp_total}
use Rattle.std.specs.FinMap.{from_entries, get, nat_cmp-IsAntisymmetric}
use Rattle.order_book.proofs.Joined.{counted, from_others, from_some, joined_remove_other, joined_remove_some, no_other, table_remove_other, table_remove_some}
use Rattle.order_book.proofs.Maps.{remove_absent}
use Rattle.order_book.proofs.RowViews.{get_row, without_row}
use Rattle.order_book.proofs.table.OrderTable.remove.Goals as goal
use Rattle.order_book.proofs.table.OrderTable.remove.Goals.{After-unwrap, In-Some, In-None}

pub overflow_sub-self : goal.overflow_sub-self
overflow_sub-self g c =
    counted c.self.inside.rising (from_entries c.self.inside.others.entries) c.self.inside.count c.args.reference c.self.invariant (rw c.self.view_is c.requires)

-- ---- the order lives in the list

in_list : (g : _) (c : In-Some g) → get c.self.inside.rising c.args.reference ≡ Some c.in-Some.row
in_list g c = sym c.remove.ensures.row ∙ c.in-Some.is

pub invariant_of-self : goal.invariant_of-self
invariant_of-self g c =
    let there = in_list g (goal.at.invariant_of-self g c).In-Some in
    rw c.remove.ensures.gone (
    table_remove_some c.self.inside.rising (from_entries c.self.inside.others.entries) c.self.inside.count c.args.reference c.self.invariant c.in-Some.row there
    )

pub returns-in-Some-clause-row : goal.returns-in-Some-clause-row
returns-in-Some-clause-row g c =
    let there = in_list g (goal.at.returns-in-Some-clause-row g c).In-Some in
    rw (← c.self.view_is) (from_some c.self.inside.rising (from_entries c.self.inside.others.entries) c.args.reference c.in-Some.row there)

pub returns-in-Some-clause-gone : goal.returns-in-Some-clause-gone
returns-in-Some-clause-gone g c =
    let some = c.self.inside.rising in
    let others = from_entries c.self.inside.others.entries in
    let reference = c.args.reference in
    let there = in_list g (goal.at.returns-in-Some-clause-gone g c).In-Some in
    rw (c.remove.ensures.gone, ← c.self.view_is) (
    joined_remove_some some others reference (no_other some others c.self.inside.count reference c.self.invariant c.in-Some.row there)
    )

-- ---- the order lives in the tree

not_in_list : (g : _) (c : In-None g) → get c.self.inside.rising c.args.reference ≡ None
not_in_list g c = sym c.remove.ensures.row ∙ c.in-None.is

pub unwrap-requires : goal.unwrap-requires
unwrap-requires g c =
    let rows = c.self.inside.others.entries in
    let others = from_entries rows in
    let reference = c.args.reference in
    let none = not_in_list g (goal.at.unwrap-requires g c).In-None in
    rw (c.remove-in-None.ensures.value, ← get_row rows others refl reference, ← from_others c.self.inside.rising others reference none, c.self.view_is) c.requires

in_tree : (g : _) (c : After-unwrap g) → get {R = nat_cmp} (from_entries c.self.inside.others.entries) c.args.reference ≡ Some c.unwrap.result
in_tree g c =
    let rows = c.self.inside.others.entries in
    get_row rows (from_entries rows) refl c.args.reference ∙ sym c.remove-in-None.ensures.value ∙ c.unwrap.ensures

pub invariant_of-self-in-None : goal.invariant_of-self-in-None
invariant_of-self-in-None g c =
    let some = c.self.inside.rising in
    let rows = c.self.inside.others.entries in
    let others = from_entries rows in
    let reference = c.args.reference in
    let none = not_in_list g (goal.at.invariant_of-self-in-None g c).In-None in
    let there = in_tree g (goal.at.invariant_of-self-in-None g c).After-unwrap in
    let same = c.remove.ensures.gone ∙ remove_absent nat_cmp_total nat_cmp-IsAntisymmetric some reference none in
    let gone = without_row rows others refl c.remove-in-None.new.self.entries reference c.remove-in-None.ensures.updates.0 in
    rw (same, gone) (table_remove_other some others c.self.inside.count reference c.self.invariant c.unwrap.result none there)

pub returns-in-None-clause-row : goal.returns-in-None-clause-row
returns-in-None-clause-row g c =
    let others = from_entries c.self.inside.others.entries in
    let none = not_in_list g (goal.at.returns-in-None-clause-row g c).In-None in
    let there = in_tree g (goal.at.returns-in-None-clause-row g c).After-unwrap in
    rw (← c.self.view_is) (from_others c.self.inside.rising others c.args.reference none ∙ there)

pub returns-in-None-clause-gone : goal.returns-in-None-clause-gone
returns-in-None-clause-gone g c =
    let some = c.self.inside.rising in
    let rows = c.self.inside.others.entries in
    let others = from_entries rows in
    let reference = c.args.reference in
    let none = not_in_list g (goal.at.returns-in-None-clause-gone g c).In-None in
    let same = c.remove.ensures.gone ∙ remove_absent nat_cmp_total nat_cmp-IsAntisymmetric some reference none in
    let gone = without_row rows others refl c.remove-in-None.new.self.entries reference c.remove-in-None.ensures.updates.0 in
    rw (same, gone, ← c.self.view_is) (joined_remove_other some others reference none)
