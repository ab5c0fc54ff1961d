use Rattle.std.proofs.Common.{◌≡◌, ◌≤◌, Option, Some, None, refl, sym, subst, ◌∙◌}
use Rattle.std.specs.Option.{IsSomeAnd}
use Rattle.std.specs.FinMap.{from_entries, get}
use Rattle.itch_table.specs.declared.order.OrderRow.{OrderRow}
use Rattle.order_book.proofs.Joined.{apart_reduced_other, apart_reduced_some, from_others, from_some, if_in_some, joined_reduced_other, joined_reduced_some}
use Rattle.order_book.proofs.RowViews.{get_row}
use Rattle.order_book.proofs.table.reduce_either.Goals as goal
use Rattle.order_book.proofs.table.reduce_either.Goals.{In-Some, In-None}

pub reduce-requires : goal.reduce-requires
reduce-requires g c =
    if_in_some c.args.rising.now (from_entries c.args.others.now.entries) c.args.reference (λ row. c.args.shares ≤ row.shares) c.requires.live

-- ---- the order lives in the list

in_list : (g : _) (c : In-Some g) → get c.args.rising.now c.args.reference ≡ Some c.in-Some.row
in_list g c = sym c.reduce.ensures.row ∙ c.in-Some.is

pub returns-in-Some-clause-row : goal.returns-in-Some-clause-row
returns-in-Some-clause-row g c =
    from_some c.args.rising.now (from_entries c.args.others.now.entries) c.args.reference c.in-Some.row (in_list g (goal.at.returns-in-Some-clause-row g c).In-Some)

pub returns-in-Some-clause-left : goal.returns-in-Some-clause-left
returns-in-Some-clause-left g c =
    let there = in_list g (goal.at.returns-in-Some-clause-left g c).In-Some in
    rw c.in-Some.ensures.left (joined_reduced_some c.args.rising.now (from_entries c.args.others.now.entries) c.args.reference c.requires.apart c.in-Some.row c.args.shares there)

pub returns-in-Some-clause-apart : goal.returns-in-Some-clause-apart
returns-in-Some-clause-apart g c =
    let there = in_list g (goal.at.returns-in-Some-clause-apart g c).In-Some in
    rw c.in-Some.ensures.left (apart_reduced_some c.args.rising.now (from_entries c.args.others.now.entries) c.args.reference c.requires.apart c.in-Some.row c.args.shares there)

-- ---- the order lives in the tree

not_in_list : (g : _) (c : In-None g) → get c.args.rising.now c.args.reference ≡ None
not_in_list g c = sym c.reduce.ensures.row ∙ c.in-None.is

pub reduce_row-requires : goal.reduce_row-requires
reduce_row-requires g c =
    let rows = c.args.others.now.entries in
    let others = from_entries rows in
    let reference = c.args.reference in
    let none = not_in_list g (goal.at.reduce_row-requires g c).In-None in
    subst (λ (o : Option OrderRow). IsSomeAnd o (λ row. c.args.shares ≤ row.shares)) (from_others c.args.rising.now others reference none ∙ get_row rows others refl reference) c.requires.live

pub returns-in-None-clause-row : goal.returns-in-None-clause-row
returns-in-None-clause-row g c =
    let rows = c.args.others.now.entries in
    let others = from_entries rows in
    let none = not_in_list g (goal.at.returns-in-None-clause-row g c).In-None in
    from_others c.args.rising.now others c.args.reference none ∙ get_row rows others refl c.args.reference ∙ c.reduce_row.ensures.row

pub returns-in-None-clause-left : goal.returns-in-None-clause-left
returns-in-None-clause-left g c =
    let none = not_in_list g (goal.at.returns-in-None-clause-left g c).In-None in
    rw (c.in-None.ensures.none, c.reduce_row.ensures.left) (
    joined_reduced_other c.args.rising.now (from_entries c.args.others.now.entries) c.args.reference c.requires.apart c.reduce_row.result c.args.shares none
    )

pub returns-in-None-clause-apart : goal.returns-in-None-clause-apart
returns-in-None-clause-apart g c =
    let none = not_in_list g (goal.at.returns-in-None-clause-apart g c).In-None in
    rw (c.in-None.ensures.none, c.reduce_row.ensures.left) (
    apart_reduced_other c.args.rising.now (from_entries c.args.others.now.entries) c.args.reference c.requires.apart c.reduce_row.result c.args.shares none
    )
