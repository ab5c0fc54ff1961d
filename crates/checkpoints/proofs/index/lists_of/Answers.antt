use Rattle.checkpoints.proofs.Indexing.{index_all, index_other, index_own}
use Rattle.checkpoints.proofs.index.lists_of.Goals as goal

pub loop-payload-preserved-in-Continue-1 : goal.loop-payload-preserved-in-Continue-1
loop-payload-preserved-in-Continue-1 g c =
    index_own _ _ _ _ _ c.loop-payload.invariant _ c.in-Some.ensures.steps c.in-Locate.locate c.in-Locate.ensures _
    c.in_ok-add_number.ensures.own c.in_ok-add_number.ensures.others

pub loop-payload-preserved : goal.loop-payload-preserved
loop-payload-preserved g c =
    index_other _ _ _ _ _ c.loop-payload.invariant _ c.in-Some.ensures.steps c.in_default.field-0 (c.in_default.ensures {u = tt})

pub returns : goal.returns
returns g c = index_all _ _ _ _ c.loop-payload.invariant c.in-None.ensures.steps.0
