use Rattle.std.proofs.Common.{sym, ◌∙◌}
use Rattle.checkpoints.proofs.Reading.{sift_all, sift_none, sift_off, sift_on}
use Rattle.checkpoints.proofs.filtering.numbers_where.Goals as goal

pub loop-payload-init : goal.loop-payload-init
loop-payload-init g c =
    sift_none _ _ _ _ (c.into_iter-payload-iterator.ensures.into_iter_gives ∙ c.payloads-payload-items.ensures.payloads) c.new-numbers.ensures.items

pub loop-payload-preserved-in-Continue-1 : goal.loop-payload-preserved-in-Continue-1
loop-payload-preserved-in-Continue-1 g c =
    sift_on _ _ _ _ _ _ c.loop-payload.invariant _ c.in-Some.ensures.steps
    (λ kept known. sym (known _ _ c.keeps.ensures) ∙ c.if-keeps.true) _ c.in_ok-push.ensures.items

pub loop-payload-preserved : goal.loop-payload-preserved
loop-payload-preserved g c =
    sift_off _ _ _ _ _ _ c.loop-payload.invariant _ c.in-Some.ensures.steps
    (λ kept known. sym (known _ _ c.keeps.ensures) ∙ c.if-keeps.false)

pub returns : goal.returns
returns g c = sift_all _ _ _ _ _ c.loop-payload.invariant c.in-None.ensures.steps.0
