use Rattle.std.proofs.Common.{ap, length, arith}
use Rattle.itch_table.specs.World.{World}
use Rattle.itch_table.proofs.Counts.{count, none_at_first}
use Rattle.stock_machine.proofs.stock.Stock.new.Goals as goal

pub invariant_of-result : goal.invariant_of-result
invariant_of-result g c = record {
  orders = omega (arith, ap count c.new.ensures.world, none_at_first);
  trades = omega (arith, ap (λ (w : World). length w.trades) c.new.ensures.world);
  steps_fit = omega arith;
}
