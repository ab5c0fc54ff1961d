use Rattle.std.proofs.Common.{◌∙◌, ap, subst, sym}
use Rattle.itch_show.specs.Parts.{GavePart}
use Rattle.itch_show.specs.Shown.{HasOutcome}
use Rattle.itch_show.proofs.Outcomes.{again_changed, again_known, fixed_known, own_known}
use Rattle.itch_table.specs.Parts.{part}
use Rattle.itch_show.proofs.stock_at_place.last_outcome.Goals as goal

pub returns-then-noted-last-clause-outcome : goal.returns-then-noted-last-clause-outcome
returns-then-noted-last-clause-outcome g c = λ day is at last.
    own_known (g.S.Read.remaining c.args.again.now.device) day c.args.last.now.number c.args.noted is c.if-last-eq0.false last c.if-noted-last.true

pub returns-in-Nowhere-clause-outcome : goal.returns-in-Nowhere-clause-outcome
returns-in-Nowhere-clause-outcome g c = λ day is at last.
    fixed_known (g.S.Read.remaining c.args.again.now.device) day c.args.last.now.number c.args.last.now.payload.items c.in-Nowhere.outcome is c.if-last-eq0.false at
    (ap part (sym c.deref.ensures.value) ∙ sym c.in-Nowhere.ensures)

pub returns-in-Some-clause-outcome : goal.returns-in-Some-clause-outcome
returns-in-Some-clause-outcome g c = λ day is at last.
    let start = g.S.Read.remaining c.args.again.now.device in
    let next = g.S.Read.remaining c.outcome_again.new.again.device in
    again_known start day next c.args.last.now.number c.args.last.now.payload.items is c.if-last-eq0.false at c.in-Some.outcome
    (subst (λ found. GavePart start next (HasOutcome c.args.last.now.number c.args.last.now.payload.items found)) c.in-Some.is ((c.in_ok-outcome.ensures {u = tt}).outcome))

pub returns-in-None-clause-outcome : goal.returns-in-None-clause-outcome
returns-in-None-clause-outcome g c = λ day is at last.
    let start = g.S.Read.remaining c.args.again.now.device in
    let next = g.S.Read.remaining c.outcome_again.new.again.device in
    again_changed start day next c.args.last.now.number c.args.last.now.payload.items is c.if-last-eq0.false at
    (subst (λ found. GavePart start next (HasOutcome c.args.last.now.number c.args.last.now.payload.items found)) c.in-None.is ((c.in_ok-outcome.ensures {u = tt}).outcome))
