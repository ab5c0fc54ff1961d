use Rattle.std.proofs.Common.{append-nil, sym, ◌∙◌}
use Rattle.debugger.proofs.Stopping.{priced_all, priced_few, priced_here, priced_more, priced_none, priced_self}
use Rattle.debugger.proofs.scanning.price_stops_by.Goals as goal

pub loop-payload-init : goal.loop-payload-init
loop-payload-init g c =
    priced_none _ _ _ _ _ _ _ (c.into_iter-payload-iterator.ensures.into_iter_gives ∙ c.payloads-payload-items.ensures.payloads)
    c.requires.locate c.requires.world c.requires.steps c.new-stops.ensures.items

pub changes_level-requires : goal.changes_level-requires
changes_level-requires g c = record {
  few = priced_few _ _ _ _ _ _ _ _ c.loop-payload.invariant _ _ c.in-Some.ensures.steps c.payloads-payload-items.ensures.few;
}

pub loop-payload-preserved-in-Continue-branch-2 : goal.loop-payload-preserved-in-Continue-branch-2
loop-payload-preserved-in-Continue-branch-2 g c =
    let here = priced_here _ _ _ _ _ _ _ _ c.loop-payload.invariant _ _ c.in-Some.ensures.steps in
    let self = priced_self _ _ _ _ _ _ _ _ c.loop-payload.invariant in
    let moved = c.in_ok-changes_level.ensures in
    priced_more _ _ _ _ _ _ _ _ c.loop-payload.invariant _ _ c.in-Some.ensures.steps _ (moved.taken _ _ here self)
    _ (sym c.if-branch.true ∙ moved.changes _ _ here self) _ c.in_ok-push.ensures.items

pub loop-payload-preserved : goal.loop-payload-preserved
loop-payload-preserved g c =
    let here = priced_here _ _ _ _ _ _ _ _ c.loop-payload.invariant _ _ c.in-Some.ensures.steps in
    let self = priced_self _ _ _ _ _ _ _ _ c.loop-payload.invariant in
    let moved = c.in_ok-changes_level.ensures in
    priced_more _ _ _ _ _ _ _ _ c.loop-payload.invariant _ _ c.in-Some.ensures.steps _ (moved.taken _ _ here self)
    _ (sym c.if-branch.false ∙ moved.changes _ _ here self) _ (sym (append-nil _))

pub returns : goal.returns
returns g c = priced_all _ _ _ _ _ _ _ _ c.loop-payload.invariant c.in-None.ensures.steps.0
