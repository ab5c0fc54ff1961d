use Rattle.std.proofs.Common.{refl, sym, ◌∙◌}
use Rattle.checkpoints.proofs.Reading.{read_none}
use Rattle.debugger.proofs.Stopping.{waited_all, waited_more, waited_until}
use Rattle.debugger.proofs.scanning.time_stops.Goals as goal

pub loop-payload-init : goal.loop-payload-init
loop-payload-init g c = record {
  reading = read_none _ _ (c.into_iter-payload-iterator.ensures.into_iter_gives ∙ c.payloads-payload-items.ensures.payloads);
  none = refl;
  empty = c.new-stops.ensures.items;
}

pub loop-payload-preserved : goal.loop-payload-preserved
loop-payload-preserved g c =
    waited_more _ _ _ _ _ c.loop-payload.invariant _ _ c.in-Some.ensures.steps (sym c.is_reached.ensures ∙ c.if-is_reached.false)

pub returns : goal.returns
returns g c = waited_all _ _ _ _ _ c.loop-payload.invariant c.in-None.ensures.steps.0

pub returns-then-is_reached : goal.returns-then-is_reached
returns-then-is_reached g c =
    waited_until _ _ _ _ _ c.loop-payload.invariant _ _ c.in-Some.ensures.steps (sym c.is_reached.ensures ∙ c.if-is_reached.true) _ c.in_ok-push.ensures.items
