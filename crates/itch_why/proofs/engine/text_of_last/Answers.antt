use Rattle.std.proofs.Common.{◌≡◌, ◌∙◌, Err, ap, arith, subst, sym}
use Rattle.std.proofs.lemmas.Result.{err_from_is_err_and}
use Rattle.itch_show.specs.Engine.{Returns}
use Rattle.itch_show.specs.Parts.{GavePart}
use Rattle.itch_show.specs.Places.{up_to}
use Rattle.itch_show.specs.declared.place.Place.TheVariants.{After}
use Rattle.itch_why.specs.Why.{IsOwnText, message_lines, nothing_before, why}
use Rattle.itch_why.proofs.WhyFiles.{changed, of_no_stock, of_stock, past_end, second_stopped}
use Rattle.itch_table.specs.Parts.{part}
use Rattle.itch_why.proofs.engine.text_of_last.Goals.{then-number-eq0-via-then-number-eq0, then-number-eq0-via-else-number-eq0+then-last-number}
use Rattle.itch_why.proofs.engine.text_of_last.Goals as goal

pub returns-then-number-eq0-clause-answer : goal.returns-then-number-eq0-clause-answer
returns-then-number-eq0-clause-answer g c = λ day read.
    past_end c.args.number c.args.limits (g.S.Read.remaining c.args.again.now.device) day _ _ read
    (λ some. elim c.then-number-eq0.branch [
      | then-number-eq0-via-then-number-eq0 w ↦ absurd (omega (arith, w.if-number-eq0.true, some))
      | then-number-eq0-via-else-number-eq0+then-last-number w ↦ w.if-last-number.true
    ])

pub returns-in-Nowhere-clause-answer : goal.returns-in-Nowhere-clause-answer
returns-in-Nowhere-clause-answer g c = λ day read.
    of_no_stock c.args.number c.args.limits (g.S.Read.remaining c.args.again.now.device) day _ _ read (omega (arith, c.if-number-eq0.false)) c.if-last-number.false c.in-Nowhere.outcome _ (ap part (sym c.deref.ensures.value) ∙ sym c.in-Nowhere.ensures)
    (c.in_ok-text-in-Nowhere.ensures {u = tt}
    ∙ (λ i. message_lines c.args.last.now.number c.in-Nowhere.outcome (c.deref-in-Nowhere.ensures.value i) nothing_before))

pub returns-in_err-made-clause-answer : goal.returns-in_err-made-clause-answer
returns-in_err-made-clause-answer g c = λ day read.
    let again = g.S.Read.remaining c.args.again.now.device in
    let later = g.S.Read.remaining c.text_again.new.again.device in
    let same = err_from_is_err_and c.from_residual-in_err-made.result c.from_residual-in_err-made.ensures.1 in
    subst (λ r. GavePart again later (λ input file. up_to (After c.args.number) file.payloads ≡ day → Returns (why c.args.number c.args.limits) input file r)) (sym (same.1 ∙ ap Err same.2))
    (second_stopped c.args.number c.args.limits again day _ _ read later _ ((c.in_err-made.ensures {u = tt}).fault))

pub returns-in_default-clause-answer : goal.returns-in_default-clause-answer
returns-in_default-clause-answer g c = λ day read.
    let again = g.S.Read.remaining c.args.again.now.device in
    let later = g.S.Read.remaining c.text_again.new.again.device in
    changed c.args.number c.args.limits again day _ _ read (omega (arith, c.if-number-eq0.false)) c.if-last-number.false later g.row.A.Denot
    (subst (λ made. GavePart again later (IsOwnText c.args.last.now.number c.args.last.now.payload.items made)) c.in_default.is ((c.in_ok-made.ensures {u = tt}).text))

pub returns-clause-answer : goal.returns-clause-answer
returns-clause-answer g c = λ day read.
    let again = g.S.Read.remaining c.args.again.now.device in
    let later = g.S.Read.remaining c.text_again.new.again.device in
    of_stock c.args.number c.args.limits again day _ _ read (omega (arith, c.if-number-eq0.false)) c.if-last-number.false later c.in-Some.text
    (subst (λ made. GavePart again later (IsOwnText c.args.last.now.number c.args.last.now.payload.items made)) c.in-Some.is ((c.in_ok-made.ensures {u = tt}).text))
