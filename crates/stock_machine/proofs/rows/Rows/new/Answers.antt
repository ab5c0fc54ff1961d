use Rattle.std.proofs.Common.{[], None}
use Rattle.std.specs.FinMap.{empty}
use Rattle.stock_machine.proofs.LiveSpent.{spent_of_none}
use Rattle.stock_machine.proofs.OwnRows.{keyed_empty}
use Rattle.stock_machine.proofs.rows.Rows.new.Goals as goal

pub returns-clause-world : goal.returns-clause-world
returns-clause-world g c =
    let l = c.args.locate in
    rw (c.new.ensures, c.new-2.ensures, c.new-3.ensures) (
    λ i. record { orders = keyed_empty l i; spent = keyed_empty l i; trades = []; stocks = empty; event = None }
    )

pub invariant_of-result : goal.invariant_of-result
invariant_of-result g c = spent_of_none _ _ c.new.ensures
