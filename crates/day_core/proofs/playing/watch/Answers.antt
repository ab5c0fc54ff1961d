use Rattle.std.proofs.Common.{◌≡◌, ◌++◌, ℕ, ◌<◌, List, length, get_or, take, ap, sym, subst, ◌∙◌, arith}
use Rattle.std.proofs.lemmas.List.{take_more}
use Rattle.day_core.specs.declared.playing.Event.{Event}
use Rattle.day_core.specs.declared.playing.Event.TheVariants.{Turn}
use Rattle.day_core.specs.declared.playing.Seen.{Seen}
use Rattle.day_core.specs.Turns.{TurnsState, workers_of}
use Rattle.day_core.specs.Schedules.{Changes, seen_of, seen_until}
use Rattle.day_core.proofs.LooksNeverGoBack.{changed, turns_after, turns_first, seen_more, shows}
use Rattle.day_core.proofs.playing.watch.Goals as goal

pub loop-event-init : goal.loop-event-init
loop-event-init g c = record { turns = turns_first c.args.turns c.requires.first; seen = c.new-seen.ensures.items }

pub loop-event-preserved : goal.loop-event-preserved
loop-event-preserved g c =
    let day = c.args.turns.day in
    let workers = workers_of c.args.turns in
    let events = c.args.events.now in
    let i : ℕ = c.loop-event.event-index in
    let event : Event = get_or events i (Turn 0) in
    let before = c.loop-event.invariant in
    let happened = (c.in_ok-happen.ensures {u = tt}) in
    let lt : i < length events = omega (arith, c.loop-event-test.true) in
    record {
      turns =
          changed day workers (take i events) event c.happen.new.turns
          (subst (λ (turns : TurnsState). Changes turns event c.happen.new.turns) before.turns happened.changes)
          ∙ ap (turns_after day workers) (sym (take_more events i (Turn 0) lt));
      seen =
          happened.seen
          ∙ ap (λ (seen : List Seen). seen ++ seen_of c.loop-event.turns event) before.seen
          ∙ ap (λ (seen : List Seen). seen_until day workers events i ++ seen)
          (ap (λ (turns : TurnsState). seen_of turns event) before.turns ∙ shows day workers (take i events) c.requires.some event)
          ∙ sym (seen_more day workers events i (Turn 0) lt);
    }

pub returns : goal.returns
returns g c =
    let day = c.args.turns.day in
    let workers = workers_of c.args.turns in
    let events = c.args.events.now in
    let all : c.loop-event.event-index ≡ length events = omega (arith, c.loop-event-test.false, c.loop-event.auto.event-index-end) in
    c.loop-event.invariant.seen ∙ ap (seen_until day workers events) all
