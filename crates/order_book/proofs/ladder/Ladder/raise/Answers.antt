use Rattle.std.proofs.Common.{◌+◌, arith}
use Rattle.order_book.proofs.LevelLists.{found_raised, in_order-insert, in_order-set, missing_raised, shares_found}
use Rattle.order_book.proofs.ladder.Ladder.raise.Goals as goal

pub overflow_add-index_mut : goal.overflow_add-index_mut
overflow_add-index_mut g c =
    let found = rw c.deref.ensures.value at c.in-Ok.ensures.found in
    let fits = rw (← c.self.view_is) at c.requires.fits in
    let there = shares_found c.self.inside.side c.self.inside.levels.items c.args.price c.in-Ok.index c.index_mut.result.now c.self.invariant found c.index_mut.ensures.value in
    omega (arith, fits, there, c.from-shares.ensures)

pub invariant_of-self : goal.invariant_of-self
invariant_of-self g c =
    let found = rw c.deref.ensures.value at c.in-Ok.ensures.found in
    in_order-set c.self.inside.side c.self.inside.levels.items c.args.price c.in-Ok.index c.index_mut.result.now c.self.invariant found c.index_mut.ensures.value (c.index_mut.result.now.shares + c.from-shares.result)

pub returns-in-Ok-clause-levels : goal.returns-in-Ok-clause-levels
returns-in-Ok-clause-levels g c =
    let found = rw c.deref.ensures.value at c.in-Ok.ensures.found in
    rw (← c.self.view_is, ← c.from-shares.ensures) (
    found_raised c.self.inside.side c.self.inside.levels.items c.args.price c.in-Ok.index c.index_mut.result.now c.self.invariant found c.index_mut.ensures.value c.from-shares.result (omega (arith, c.requires.some, c.from-shares.ensures))
    )

pub invariant_of-self-in-Err : goal.invariant_of-self-in-Err
invariant_of-self-in-Err g c =
    let gap = rw c.deref.ensures.value at c.in-Err.ensures.missing in
    let inserted = rw c.unwrap.ensures at c.insert.ensures.items in
    rw inserted (in_order-insert c.self.inside.side c.self.inside.levels.items c.args.price c.in-Err.index c.self.invariant gap c.from-shares.result)

pub returns-in-Err-clause-levels : goal.returns-in-Err-clause-levels
returns-in-Err-clause-levels g c =
    let gap = rw c.deref.ensures.value at c.in-Err.ensures.missing in
    let inserted = rw c.unwrap.ensures at c.insert.ensures.items in
    rw (inserted, ← c.self.view_is, ← c.from-shares.ensures) (
    missing_raised c.self.inside.side c.self.inside.levels.items c.args.price c.in-Err.index c.self.invariant gap c.from-shares.result (omega (arith, c.requires.some, c.from-shares.ensures))
    )
