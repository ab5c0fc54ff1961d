use Rattle.std.proofs.Common.{◌+◌, ap, ◌∙◌, arith}
use Rattle.checkpoints.specs.Copies.{machine_after_own}
use Rattle.checkpoints.proofs.Along.{part_fits, part_inside, part_payload, part_within, takes_few, takes_own, took_own}
use Rattle.checkpoints.proofs.own.advance.Goals as goal

pub payload-requires-clause-first : goal.payload-requires-clause-first
payload-requires-clause-first g c = (part_inside _ _ _ c.requires.numbers _ _ _ c.loop-number-test.true).0

pub payload-requires-clause-last : goal.payload-requires-clause-last
payload-requires-clause-last g c = (part_inside _ _ _ c.requires.numbers _ _ _ c.loop-number-test.true).1

pub step-requires-clause-own : goal.step-requires-clause-own
step-requires-clause-own g c =
    let within = part_within _ _ _ c.requires.numbers _ _ _ c.loop-number-test.true in
    let here = part_payload _ _ _ c.requires.numbers _ _ _ c.loop-number-test.true _ c.payload.ensures in
    takes_own _ _ _ 0 within _ c.loop-number.invariant _ here

pub step-requires-clause-few : goal.step-requires-clause-few
step-requires-clause-few g c =
    let within = part_within _ _ _ c.requires.numbers _ _ _ c.loop-number-test.true in
    let here = part_payload _ _ _ c.requires.numbers _ _ _ c.loop-number-test.true _ c.payload.ensures in
    takes_few _ _ _ 0 within _ c.loop-number.invariant _ here (part_fits _ _ _ c.requires.numbers _ _ _ c.loop-number-test.true (c.type_inv.numbers (c.args.from + c.loop-number.number-index)).fits)

pub loop-number-preserved : goal.loop-number-preserved
loop-number-preserved g c =
    let within = part_within _ _ _ c.requires.numbers _ _ _ c.loop-number-test.true in
    let here = part_payload _ _ _ c.requires.numbers _ _ _ c.loop-number-test.true _ c.payload.ensures in
    let left = c.in_ok-step.ensures in
    took_own _ _ _ 0 within _ c.loop-number.invariant _ here _ _ c.step.ensures.locate left.steps left.ok
    ∙ ap (machine_after_own c.args.day.now.payloads c.args.stock.now.locate) (omega arith)
