use Rattle.itch_print.proofs.HeldFields.{has_field}
use Rattle.itch_print.proofs.printing.put_fields.Goals as goal

pub put_field-requires : goal.put_field-requires
put_field-requires g c = has_field c.args.payload.now c.args.fields.now c.loop-field.field-index _ c.requires c.loop-field-test.true
