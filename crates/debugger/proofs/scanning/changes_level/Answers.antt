use Rattle.std.proofs.Common.{sym, ap, ◌∙◌}
use Rattle.itch_table.specs.Projection.{is_of_stock}
use Rattle.debugger.proofs.Stopping.{changed, stays, taken, unchanged}
use Rattle.debugger.proofs.scanning.changes_level.Goals as goal

pub returns-then-not-is_of_stock-clause-changes : goal.returns-then-not-is_of_stock-clause-changes
returns-then-not-is_of_stock-clause-changes g c = λ day n here is.
    let other = ap (λ l. is_of_stock l c.args.payload.now) (sym c.locate.ensures) ∙ sym (c.if-not-is_of_stock.ensures {u = tt}) in
    unchanged day c.args.stock.now.locate c.args.side c.args.price n _ here _ is other

pub returns-then-not-is_of_stock-clause-taken : goal.returns-then-not-is_of_stock-clause-taken
returns-then-not-is_of_stock-clause-taken g c = λ day n here is.
    let other = ap (λ l. is_of_stock l c.args.payload.now) (sym c.locate.ensures) ∙ sym (c.if-not-is_of_stock.ensures {u = tt}) in
    stays day c.args.stock.now.locate c.args.side c.args.price n _ here _ is other

pub returns-clause-changes : goal.returns-clause-changes
returns-clause-changes g c = λ day n here is.
    let own = ap (λ l. is_of_stock l c.args.payload.now) (sym c.locate.ensures) ∙ sym (c.if-not-is_of_stock.ensures {u = tt}) in
    let left = c.in_ok-step.ensures in
    rw (c.level.ensures, c.level-before.ensures)
    (changed day c.args.stock.now.locate c.args.side c.args.price n _ here _ is own c.step.new.self _ c.step.ensures.locate left.steps left.ok)

pub returns-clause-taken : goal.returns-clause-taken
returns-clause-taken g c = λ day n here is.
    let own = ap (λ l. is_of_stock l c.args.payload.now) (sym c.locate.ensures) ∙ sym (c.if-not-is_of_stock.ensures {u = tt}) in
    let left = c.in_ok-step.ensures in
    taken day c.args.stock.now.locate c.args.side c.args.price n _ here _ is own c.step.new.self _ c.step.ensures.locate left.steps left.ok
