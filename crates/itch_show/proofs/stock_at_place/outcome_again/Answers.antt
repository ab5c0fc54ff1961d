use Rattle.std.proofs.Common.{◌≡◌, ◌-◌, ◌<◌, ◌^◌, ◌∙◌, IfSome, ap, subst, sym}
use Rattle.itch_show.specs.Before.{IsBefore}
use Rattle.itch_show.specs.Parts.{GavePart}
use Rattle.itch_show.specs.Shown.{last_noted}
use Rattle.itch_show.proofs.Outcomes.{none_before, step_before}
use Rattle.itch_table.specs.declared.outcome.Part.TheVariants.{Locate}
use Rattle.itch_table.specs.Parts.{part}
use Rattle.itch_table.specs.Table.{step}
use Rattle.itch_show.proofs.stock_at_place.outcome_again.Goals as goal

pub returns-clause-outcome : goal.returns-clause-outcome
returns-clause-outcome g c =
    let start = g.S.Read.remaining c.args.again.now.device in
    let next = g.S.Read.remaining c.stock_before.new.feed.device in
    let none = c.of_none-none.result in
    step_before (λ _ now messages. now ≡ last_noted messages) none start next c.args.locate c.args.last.now.number c.args.last.now.payload.items _ _ _ _
    c.stocks_are_independent.ensures.own c.requires.some c.requires.own
    (subst (λ found. GavePart start next (IsBefore (λ _ now messages. now ≡ last_noted messages) none c.args.locate c.args.last.now.number found)) c.in-Some.is ((c.in_ok-before.ensures {u = tt}).stock))
    (subst (λ p. (c.in_ok-outcome.outcome, c.step.new.self.world) ≡ step c.in-Some.stock.world p) c.deref.ensures.value ((c.in_ok-outcome.ensures {u = tt}).ok))

pub returns-in_default-clause-outcome : goal.returns-in_default-clause-outcome
returns-in_default-clause-outcome g c =
    let start = g.S.Read.remaining c.args.again.now.device in
    let next = g.S.Read.remaining c.stock_before.new.feed.device in
    let none = c.of_none-none.result in
    none_before (λ _ now messages. now ≡ last_noted messages) none start next c.args.locate c.args.last.now.number c.args.last.now.payload.items
    (subst (λ found. GavePart start next (IsBefore (λ _ now messages. now ≡ last_noted messages) none c.args.locate c.args.last.now.number found)) c.in_default.is
    ((c.in_ok-before.ensures {u = tt}).stock))

pub step-requires-clause-own : goal.step-requires-clause-own
step-requires-clause-own g c =
    let found = subst (λ found. IfSome found (λ parts. (parts.0.locate ≡ c.args.locate) × (parts.0.steps < 2 ^ 32 - 1))) c.in-Some.is ((c.in_ok-before.ensures {u = tt}).machine) in
    ap part c.deref.ensures.value ∙ c.requires.own ∙ ap Locate (sym found.0)
