use Rattle.std.proofs.Common.{◌-◌, arith}
use Rattle.order_book.proofs.ReferenceSearch.{all_above, all_below, no_row}
use Rattle.order_book.proofs.rising.window_of.Goals as goal

pub returns-then-from-distance-clause-below : goal.returns-then-from-distance-clause-below
returns-then-from-distance-clause-below c =
    all_below c.args.rows.now c.args.distance _ _ c.requires (omega (arith, c.loop.invariant.some, c.loop.invariant.within, c.if-end-step.false)) (rw c.from.ensures at c.if-from-distance.true)

pub loop-preserved : goal.loop-preserved
loop-preserved c = record {
  some = omega (arith, c.saturating_mul-step.ensures, c.loop.invariant.some);
  within = omega (arith, c.loop.invariant.within);
  above =
      all_above c.args.rows.now c.args.distance (c.loop.end - c.loop.step) no_row c.requires (omega (arith, c.loop.invariant.some, c.loop.invariant.within, c.if-end-step.false)) (omega (arith, c.from.ensures, c.if-from-distance.false));
}
