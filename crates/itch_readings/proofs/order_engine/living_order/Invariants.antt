use Rattle.std.proofs.Common.{◌≡◌, drop}
use Rattle.itch_readings.specs.OrderHistory.{first_by}
use Rattle.itch_readings.specs.OrderLives.{living_order}
use Rattle.itch_readings.proofs.order_engine.living_order.Given as goal

abbrev pub invariant-loop-order : goal.invariant-loop-order
invariant-loop-order g l = record {
  first : l.first ≡ first_by l.lives.firsts l.reference;
  later : living_order (first_by l.lives.firsts) l.reference (drop l.order-index l.orders) ≡ living_order (first_by l.lives.firsts) l.reference l.orders;
}
