use Rattle.std.proofs.Common.{arith}
use Rattle.itch_show.proofs.ClockWords.{below_second, if_none, no_decimals}
use Rattle.itch_show.proofs.time.decimals.Goals as goal

pub overflow_mul-result : goal.overflow_mul-result
overflow_mul-result c = omega (arith, below_second c.in-Some.digits.now c.in_ok-number.number c.if-digits-gt9.false ((c.in_ok-number.ensures {u = tt}).some))

pub returns-clause-below : goal.returns-clause-below
returns-clause-below c = below_second c.in-Some.digits.now c.in_ok-number.number c.if-digits-gt9.false ((c.in_ok-number.ensures {u = tt}).some)

pub returns-in_err-number-clause-none : goal.returns-in_err-number-clause-none
returns-in_err-number-clause-none c =
    if_none c.from_residual.result (no_decimals c.args.rest.now c.in-Some.point.now c.in-Some.digits.now c.in-Some.ensures.cases.0 ((c.in_err-number.ensures {u = tt}).none))
