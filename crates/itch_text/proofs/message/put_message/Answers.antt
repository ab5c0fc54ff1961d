use Rattle.std.proofs.Common.{sym, refl, ◌∙◌, map}
use Rattle.std.proofs.lemmas.Result.{err_from_is_err_and}
use Rattle.itch_layouts.specs.StaticFields.{as_field}
use Rattle.itch_layouts.specs.StaticLayouts.{as_layout}
use Rattle.itch_text.specs.Words.{words}
use Rattle.itch_text.proofs.MessageBytes.{message_put, words_left, head_refused, body_refused, some_words, none_left}
use Rattle.itch_text.proofs.message.put_message.Goals as goal

pub returns-in_err-body : goal.returns-in_err-body
returns-in_err-body g c =
    let p = err_from_is_err_and c.from_residual-in_err-body.result c.from_residual-in_err-body.ensures.1 in
    rw (p.1, p.2) (head_refused c.args.out.now.items c.push.new.self.items c.put_fields.new.out.items c.put_fields.new.out.items (as_layout c.args.layout.now) (map as_field c.head_fields.result.now) (words c.args.line.now) c.in_err-body.field-0.0 c.head_fields.ensures c.in_err-body.ensures)

pub returns-in_err-rest : goal.returns-in_err-rest
returns-in_err-rest g c =
    let p = err_from_is_err_and c.from_residual-in_err-rest.result c.from_residual-in_err-rest.ensures.1 in
    rw (p.1, p.2) (body_refused c.args.out.now.items c.push.new.self.items c.put_fields.new.out.items c.put_fields-2.new.out.items c.put_fields-2.new.out.items (as_layout c.args.layout.now) (map as_field c.head_fields.result.now) (words c.args.line.now) (words c.in_ok-body.body.now) c.in_err-rest.field-0.0 c.head_fields.ensures c.in_ok-body.ensures c.in_err-rest.ensures)

pub returns-then-is_some : goal.returns-then-is_some
returns-then-is_some g c =
    let more = some_words (λ parts. parts.0.now) (λ parts. words parts.1.now) c.split_word.result (words c.in_ok-rest.rest.now) (sym c.is_some.ensures ∙ c.if-is_some.true) c.split_word.ensures in
    (refl, words_left c.push.new.self.items c.put_fields.new.out.items c.put_fields-2.new.out.items (as_layout c.args.layout.now) (map as_field c.head_fields.result.now) (words c.args.line.now) (words c.in_ok-body.body.now) (words c.in_ok-rest.rest.now) more.0 more.1 c.head_fields.ensures c.in_ok-body.ensures c.in_ok-rest.ensures more.2)

pub returns : goal.returns
returns g c =
    let none = none_left (λ parts. parts.0.now) (λ parts. words parts.1.now) c.split_word.result (words c.in_ok-rest.rest.now) (sym c.is_some.ensures ∙ c.if-is_some.false) c.split_word.ensures in
    let began = rw (c.in_ok-extend_from_slice.ensures.items, c.to_be_bytes.ensures, c.in_ok-reserve.ensures.items) at c.in_ok-push.ensures.items in
    message_put c.args.out.now.items c.push.new.self.items c.put_fields.new.out.items c.put_fields-2.new.out.items (as_layout c.args.layout.now) (map as_field c.head_fields.result.now) (words c.args.line.now) (words c.in_ok-body.body.now) (words c.in_ok-rest.rest.now) c.args.layout.now.sound began c.head_fields.ensures c.in_ok-body.ensures c.in_ok-rest.ensures none
