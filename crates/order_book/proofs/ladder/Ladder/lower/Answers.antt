use Rattle.std.proofs.Common.{◌≡◌, ℕ, ◌-◌, ◌<◌, List, length, get_or, arith, sym, ◌∙◌}
use Rattle.std.proofs.lemmas.List.{get_or_default}
use Rattle.order_book.specs.Kept.{IsFound}
use Rattle.order_book.proofs.LevelLists.{found_gone, found_lowered, in_order-remove, in_order-set, missing_lowered, shares_found}
use Rattle.order_book.proofs.ladder.Ladder.lower.Goals as goal

pub overflow_sub-left : goal.overflow_sub-left
overflow_sub-left g c =
    let found = rw c.deref.ensures.value at c.in-Ok.ensures.found in
    let enough = rw (← c.self.view_is) at c.requires in
    let there = shares_found c.self.inside.side c.self.inside.levels.items c.args.price c.in-Ok.index c.index.result.now c.self.invariant found c.index.ensures in
    omega (arith, enough, there, c.from.ensures)

pub invariant_of-self : goal.invariant_of-self
invariant_of-self g c =
    let found = rw c.deref.ensures.value at c.in-Ok.ensures.found in
    rw c.remove.ensures.items (
    in_order-remove c.self.inside.side c.self.inside.levels.items c.args.price c.in-Ok.index c.index.result.now c.self.invariant found c.index.ensures
    )

pub returns-then-left-eq0-clause-levels : goal.returns-then-left-eq0-clause-levels
returns-then-left-eq0-clause-levels g c =
    let found = rw c.deref.ensures.value at c.in-Ok.ensures.found in
    rw (c.remove.ensures.items, ← c.self.view_is, ← c.from.ensures) (
    found_gone c.self.inside.side c.self.inside.levels.items c.args.price c.in-Ok.index c.index.result.now c.self.invariant found c.index.ensures c.from.result c.if-left-eq0.true
    )

-- the level is read twice
same_level : {X : Type 0} (xs : List X) (i : ℕ) (x y : X) → i < length xs → x ≡ get_or xs i x → y ≡ get_or xs i y → x ≡ y
same_level xs i x y within is also = is ∙ get_or_default xs i x y within ∙ sym also

pub invariant_of-self-else-left-eq0 : goal.invariant_of-self-else-left-eq0
invariant_of-self-else-left-eq0 g c =
    let found = rw c.deref.ensures.value at c.in-Ok.ensures.found in
    in_order-set c.self.inside.side c.self.inside.levels.items c.args.price c.in-Ok.index c.index_mut.result.now c.self.invariant found c.index_mut.ensures.value (c.index.result.now.shares - c.from.result)

pub returns-else-left-eq0-clause-levels : goal.returns-else-left-eq0-clause-levels
returns-else-left-eq0-clause-levels g c =
    let levels = c.self.inside.levels.items in
    let found : IsFound levels c.args.price c.in-Ok.index = rw c.deref.ensures.value at c.in-Ok.ensures.found in
    let same = same_level levels c.in-Ok.index c.index_mut.result.now c.index.result.now found.0 c.index_mut.ensures.value c.index.ensures in
    rw (same, ← c.self.view_is, ← c.from.ensures) (
    found_lowered c.self.inside.side levels c.args.price c.in-Ok.index c.index.result.now c.self.invariant found c.index.ensures c.from.result c.if-left-eq0.false
    )

pub returns-in_default-clause-levels : goal.returns-in_default-clause-levels
returns-in_default-clause-levels g c =
    let gap = rw c.deref.ensures.value at c.in_default.ensures.missing in
    let enough = rw (← c.self.view_is) at c.requires in
    rw (← c.self.view_is) (missing_lowered c.self.inside.side c.self.inside.levels.items c.args.price c.in_default.field-0 c.self.invariant gap c.args.shares enough)
