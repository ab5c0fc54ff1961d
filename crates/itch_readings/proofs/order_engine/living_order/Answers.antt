use Rattle.std.proofs.Common.{◌∙◌}
use Rattle.itch_readings.specs.OrderHistory.{first_by}
use Rattle.itch_readings.proofs.KeptHistory.{living_later}
use Rattle.itch_readings.proofs.order_engine.living_order.Goals as goal

pub loop-order-preserved : goal.loop-order-preserved
loop-order-preserved g c = record {
  first = c.loop-order.invariant.first;
  later = living_later (first_by c.args.lives.now.firsts) c.args.reference c.args.orders.now c.loop-order.order-index _ _ _ c.loop-order-test.true
      c.first.ensures c.first-first.ensures c.if-first.false ∙ c.loop-order.invariant.later;
}
