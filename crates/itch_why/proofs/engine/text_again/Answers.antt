use Rattle.std.proofs.Common.{◌∙◌, ap, subst}
use Rattle.itch_show.specs.Before.{IsBefore}
use Rattle.itch_show.specs.Parts.{GavePart}
use Rattle.itch_layouts.specs.Shapes.{shape_of}
use Rattle.itch_why.specs.Why.{own_lines}
use Rattle.itch_table.specs.Table.{step}
use Rattle.itch_why.proofs.WhyFiles.{EarlierOf, none_is, own_text_is}
use Rattle.itch_why.proofs.engine.text_again.Goals as goal

pub returns-in_default-clause-text : goal.returns-in_default-clause-text
returns-in_default-clause-text g c =
    let start = g.S.Read.remaining c.args.again.now.device in
    let next = g.S.Read.remaining c.stock_before.new.feed.device in
    none_is c.of_none-none.result start next c.args.locate c.args.last.now.number c.args.last.now.payload.items
    (subst (λ found. GavePart start next (IsBefore EarlierOf c.of_none-none.result c.args.locate c.args.last.now.number found)) c.in_default.is
    ((c.in_ok-before.ensures {u = tt}).stock))

pub returns-clause-text : goal.returns-clause-text
returns-clause-text g c =
    let start = g.S.Read.remaining c.args.again.now.device in
    let next = g.S.Read.remaining c.stock_before.new.feed.device in
    let payload = c.args.last.now.payload.items in
    own_text_is c.of_none-none.result c.in-Some.earlier start next c.args.locate c.args.last.now.number payload c.in-Some.stock c.in_ok-text.text
    c.stocks_are_independent.ensures.own c.requires.some c.requires.own (c.of_none-none.ensures.shape ∙ ap shape_of c.deref.ensures.value)
    (subst (λ found. GavePart start next (IsBefore EarlierOf c.of_none-none.result c.args.locate c.args.last.now.number found)) c.in-Some.is
    ((c.in_ok-before.ensures {u = tt}).stock))
    (c.in_ok-text.ensures {u = tt}
    ∙ (λ i. own_lines c.in-Some.stock.world c.in-Some.stock.locate (c.deref-2.ensures.value i) c.args.last.now.number
    (step c.in-Some.stock.world (c.deref-3.ensures.value i)).0 (c.deref-3.ensures.value i)))
