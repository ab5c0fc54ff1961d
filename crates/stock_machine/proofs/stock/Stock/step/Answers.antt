use Rattle.std.proofs.Common.{ap, length, arith}
use Rattle.itch_table.specs.declared.outcome.Outcome.{Outcome}
use Rattle.itch_table.specs.World.{World}
use Rattle.itch_table.proofs.Counts.{count, step_few}
use Rattle.stock_machine.specs.StockRows.{StockMachine}
use Rattle.stock_machine.proofs.stock.Stock.step.Goals as goal

pub invariant_of-self-2 : goal.invariant_of-self-2
invariant_of-self-2 g c =
    let few = step_few c.self.inside.rows.world c.args.payload.now in
    let before = c.self.invariant in
    let is = (c.in_ok-outcome.ensures {u = tt}).ok in
    let steps = ap (λ (m : StockMachine). m.steps) c.self.view_is in
    record {
      orders = omega (arith, few.orders, ap (λ (r : Outcome × World). count r.1) is, before.orders);
      trades = omega (arith, few.trades, ap (λ (r : Outcome × World). length r.1.trades) is, before.trades);
      steps_fit = omega (arith, steps, c.requires.few);
    }
