use Rattle.std.proofs.Common.{refl}
use Rattle.std.proofs.lemmas.Result.{err_from_is_err_and}
use Rattle.itch_layouts.specs.StaticFields.{as_field}
use Rattle.itch_text.specs.Words.{words}
use Rattle.itch_text.proofs.FieldBytes.{field_read, no_word_left, field_refused}
use Rattle.itch_text.proofs.Widths.{sound_at}
use Rattle.itch_text.proofs.fields.put_fields.Goals as goal

pub returns-in_default : goal.returns-in_default
returns-in_default g c = (refl, no_word_left c.args.out.now.items c.fields.out.items c.args.fields.now (words c.fields.rest.now) (words c.args.line.now) c.fields.field-index c.fields-test.true c.in_default.ensures c.fields.invariant)

pub returns-in_err-put_field : goal.returns-in_err-put_field
returns-in_err-put_field g c =
    let p = err_from_is_err_and c.from_residual.result c.from_residual.ensures.1 in
    rw (p.1, p.2) (field_refused c.args.out.now.items c.fields.out.items c.put_field.new.out.items c.args.fields.now (words c.fields.rest.now) (words c.args.line.now) c.fields.field-index _ c.in-Some.word.now (words c.in-Some.following.now) c.in_err-put_field.field-0.0 c.fields-test.true c.in-Some.ensures c.in_err-put_field.ensures c.fields.invariant)

pub fields-preserved : goal.fields-preserved
fields-preserved g c = field_read c.args.out.now.items c.fields.out.items c.put_field.new.out.items c.args.fields.now (words c.fields.rest.now) (words c.args.line.now) c.fields.field-index _ c.in-Some.word.now (words c.in-Some.following.now) c.fields-test.true c.in-Some.ensures c.in_ok-put_field.ensures c.fields.invariant

pub put_field-requires : goal.put_field-requires
put_field-requires g c = sound_at as_field c.args.fields.now c.fields.field-index _ c.requires c.fields-test.true
