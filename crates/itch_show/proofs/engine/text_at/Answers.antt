use Rattle.std.proofs.Common.{◌≡◌, ◌∙◌, Err, ap, length, subst, sym}
use Rattle.std.proofs.lemmas.Result.{err_from_is_err_and}
use Rattle.std.specs.Prelude.{MatchOption}
use Rattle.itch_show.specs.Parts.{GavePart}
use Rattle.itch_show.specs.Places.{up_to}
use Rattle.itch_show.specs.Engine.{Returns, shown_at}
use Rattle.itch_show.specs.Shown.{IsKnownAt, IsShownAfter, StandsForNone, StartsWith}
use Rattle.itch_show.proofs.ShownFiles.{changed, no_stock, past_end, second_stopped, shown}
use Rattle.itch_show.proofs.engine.text_at.Goals as goal

pub returns-then-is_past-clause-answer : goal.returns-then-is_past-clause-answer
returns-then-is_past-clause-answer g c = λ name day is.
    past_end name c.args.place.now c.args.limits (g.S.Read.remaining c.args.again.now.device) day c.args.at.now.last.number is.number_is
    (sym c.is_past.ensures ∙ c.if-is_past.true)

pub returns-in_default-clause-answer : goal.returns-in_default-clause-answer
returns-in_default-clause-answer g c = λ name day is.
    no_stock name c.args.place.now c.args.limits (g.S.Read.remaining c.args.again.now.device) day c.args.at.now.last.number is.number_is
    (sym c.is_past.ensures ∙ c.if-is_past.false)
    (subst (λ o. MatchOption o (StandsForNone day name) (λ s. IsShownAfter day name s.0 s.1)) c.in_default.is is.stock_is)

pub returns-in_err-outcome-clause-answer : goal.returns-in_err-outcome-clause-answer
returns-in_err-outcome-clause-answer g c = λ name day is.
    let again = g.S.Read.remaining c.args.again.now.device in
    let later = g.S.Read.remaining c.last_outcome.new.again.device in
    let same = err_from_is_err_and c.from_residual.result c.from_residual.ensures.1 in
    subst (λ r. GavePart again later (λ input file. up_to c.args.place.now file.payloads ≡ day → Returns (shown_at name c.args.place.now c.args.limits) input file r))
    (sym (same.1 ∙ ap Err same.2))
    (second_stopped name c.args.place.now c.args.limits again day c.args.at.now.last.number is.number_is later _ ((c.in_err-outcome.ensures {u = tt}).fault))

pub returns-in_default-2-clause-answer : goal.returns-in_default-2-clause-answer
returns-in_default-2-clause-answer g c = λ name day is.
    let again = g.S.Read.remaining c.args.again.now.device in
    let later = g.S.Read.remaining c.last_outcome.new.again.device in
    let stands = subst (λ o. MatchOption o (StandsForNone day name) (λ s. IsShownAfter day name s.0 s.1)) c.in-Some.is is.stock_is in
    changed name c.args.place.now c.args.limits again day c.args.at.now.last.number is.number_is later
    (subst (λ found. GavePart again later (λ _ file. StartsWith day file.payloads → IsKnownAt file.payloads (length day) found)) c.in_default-2.is
    ((c.in_ok-outcome.ensures {u = tt}).outcome day is.number_is is.payload_is stands.last))

pub returns-clause-answer : goal.returns-clause-answer
returns-clause-answer g c = λ name day is.
    let again = g.S.Read.remaining c.args.again.now.device in
    let later = g.S.Read.remaining c.last_outcome.new.again.device in
    let stands = subst (λ o. MatchOption o (StandsForNone day name) (λ s. IsShownAfter day name s.0 s.1)) c.in-Some.is is.stock_is in
    let known = subst (λ found. GavePart again later (λ _ file. StartsWith day file.payloads → IsKnownAt file.payloads (length day) found)) c.in-Some-2.is
    ((c.in_ok-outcome.ensures {u = tt}).outcome day is.number_is is.payload_is stands.last) in
    shown name c.args.place.now c.args.limits again day c.args.at.now.last.number is.number_is later c.in-Some-2.outcome known
    c.in-Some.stock c.in-Some.noted c.in_ok-text.text.items (sym c.is_past.ensures ∙ c.if-is_past.false) stands (c.in_ok-text.ensures {u = tt})
