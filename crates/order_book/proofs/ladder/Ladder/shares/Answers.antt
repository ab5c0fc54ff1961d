use Rattle.std.proofs.Common.{sym}
use Rattle.order_book.proofs.LevelLists.{shares_found, shares_missing}
use Rattle.order_book.proofs.ladder.Ladder.shares.Goals as goal

pub returns-in-Ok : goal.returns-in-Ok
returns-in-Ok g c =
    let found = rw c.deref.ensures.value at c.in-Ok.ensures.found in
    rw (← c.self.view_is) (
    sym (shares_found c.self.inside.side c.self.inside.levels.items c.args.price c.in-Ok.index c.index.result.now c.self.invariant found c.index.ensures)
    )

pub returns-in-Err : goal.returns-in-Err
returns-in-Err g c =
    let gap = rw c.deref.ensures.value at c.in-Err.ensures.missing in
    rw (← c.self.view_is) (sym (shares_missing c.self.inside.side c.self.inside.levels.items c.args.price c.in-Err.field-0 c.self.invariant gap))
