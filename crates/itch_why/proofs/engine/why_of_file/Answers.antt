use Rattle.std.proofs.Common.{◌∙◌, Err, ap, subst, sym}
use Rattle.std.proofs.lemmas.Result.{err_from_is_err_and}
use Rattle.itch_show.specs.Engine.{Returns}
use Rattle.itch_show.specs.Shown.{GaveParts}
use Rattle.itch_show.specs.declared.place.Place.TheVariants.{After}
use Rattle.itch_show.proofs.TwoReadings.{both_gave, first_alone}
use Rattle.itch_why.specs.Why.{why}
use Rattle.itch_why.proofs.engine.why_of_file.Goals as goal

pub returns-in_err-last-clause-answer : goal.returns-in_err-last-clause-answer
returns-in_err-last-clause-answer g c =
    let old = g.R.Read.remaining c.args.feed.now.device in
    let new = g.R.Read.remaining c.read_up_to.new.feed.device in
    let again = g.S.Read.remaining c.args.again.now.device in
    let same = err_from_is_err_and c.from_residual.result c.from_residual.ensures.1 in
    subst (λ r. GaveParts old new again again (λ input file. Returns (why c.args.number c.args.limits) input file r)) (sym (same.1 ∙ ap Err same.2))
    (first_alone again old new _ ((c.in_err-last.ensures {u = tt}).fault))

pub returns-clause-answer : goal.returns-clause-answer
returns-clause-answer g c =
    let read = (c.in_ok-last.ensures {u = tt}).read in
    both_gave (g.S.Read.remaining c.args.again.now.device) _ _ (g.S.Read.remaining c.text_of_last.new.again.device) c.args.limits (After c.args.number) _ _ _ read
    (λ input file. Returns (why c.args.number c.args.limits) input file c.text_of_last.result)
    (c.text_of_last.ensures.answer read.day (record { number_is = read.number_is; payload_is = read.payload_is; comes_up = read.comes_up }))
