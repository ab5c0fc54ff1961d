use Rattle.std.proofs.Common.{◌∙◌, Err, ap, sym, subst}
use Rattle.std.proofs.lemmas.Result.{err_from_is_err_and}
use Rattle.itch_show.specs.Engine.{Returns, shown_at}
use Rattle.itch_show.specs.Shown.{GaveParts}
use Rattle.itch_show.proofs.TwoReadings.{both_gave, first_alone}
use Rattle.itch_show.proofs.engine.show_of_file.Goals as goal

pub returns-in_err-at-clause-answer : goal.returns-in_err-at-clause-answer
returns-in_err-at-clause-answer g c =
    let old = g.R.Read.remaining c.args.feed.now.device in
    let new = g.R.Read.remaining c.stock_at_place.new.feed.device in
    let again = g.S.Read.remaining c.args.again.now.device in
    let same = err_from_is_err_and c.from_residual.result c.from_residual.ensures.1 in
    subst (λ r. GaveParts old new again again (λ input file. Returns (shown_at c.args.name c.args.place c.args.limits) input file r)) (sym (same.1 ∙ ap Err same.2))
    (first_alone again old new _ ((c.in_err-at.ensures {u = tt}).fault))

pub returns-clause-answer : goal.returns-clause-answer
returns-clause-answer g c =
    let read = (c.in_ok-at.ensures {u = tt}).read in
    both_gave (g.S.Read.remaining c.args.again.now.device) _ _ (g.S.Read.remaining c.text_at.new.again.device) c.args.limits c.args.place _ _ _ read
    (λ input file. Returns (shown_at c.args.name c.args.place c.args.limits) input file c.text_at.result)
    (c.text_at.ensures.answer c.args.name read.day (record { number_is = read.number_is; payload_is = read.payload_is; stock_is = read.holds }))
