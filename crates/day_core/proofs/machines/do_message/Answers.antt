use Rattle.day_core.proofs.MachineSteps.{done_due, few_due, grows_due, on_err, own_due}
use Rattle.day_core.proofs.machines.do_message.Goals as goal

pub payload-requires : goal.payload-requires
payload-requires g c = record { first = c.requires.some; last = c.requires.within }

pub step-requires : goal.step-requires
step-requires g c = record { own = own_due c.requires c.payload.result.now c.payload.ensures; few = few_due c.requires c.ranges.message.fits }

pub returns-in_err-outcome-clause-grows : goal.returns-in_err-outcome-clause-grows
returns-in_err-outcome-clause-grows g c = on_err c.from_residual.result _ (grows_due c.requires c.payload.result.now c.payload.ensures c.in_err-outcome.ensures.grows)

pub returns-clause-piece : goal.returns-clause-piece
returns-clause-piece g c =
    let done = done_due c.requires c.payload.result.now c.payload.ensures c.step.new.self c.in_ok-outcome.outcome c.in_ok-outcome.ensures.locate c.in_ok-outcome.ensures.steps c.in_ok-outcome.ensures.ok in
    λ i. record { message = c.args.message; outcome = done.1 i }

pub returns-clause-done : goal.returns-clause-done
returns-clause-done g c =
    (done_due c.requires c.payload.result.now c.payload.ensures c.step.new.self c.in_ok-outcome.outcome c.in_ok-outcome.ensures.locate c.in_ok-outcome.ensures.steps c.in_ok-outcome.ensures.ok).0
