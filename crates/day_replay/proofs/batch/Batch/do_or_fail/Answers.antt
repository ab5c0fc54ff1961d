use Rattle.std.proofs.Common.{◌++◌, sym, subst, ◌∙◌}
use Rattle.day_replay.specs.Batches.{HasDone}
use Rattle.day_replay.proofs.BatchSteps.{not_err}
use Rattle.day_replay.proofs.batch.Batch.do_or_fail.Goals as goal

pub returns : goal.returns
returns g c = λ fine batch before has own.
    let does = not_err c.do_all.result (sym c.is_err-self-inside.ensures.value ∙ fine) c.do_all.ensures in
    let done = subst (HasDone batch (before ++ c.args.messages.now)) (sym c.self.view_is) (does batch before has own) in
    record { machines_are = done.machines_are; refused_are = done.refused_are }
