use Rattle.itch_layouts.specs.StaticLayouts.{as_layout}
use Rattle.itch_print.proofs.HeldFields.{has_head, has_body}
use Rattle.itch_print.proofs.lines.put_message.Goals as goal

pub put_fields-requires : goal.put_fields-requires
put_fields-requires g c = has_head c.args.payload.now (as_layout c.args.layout.now) c.head_fields.result.now c.args.layout.now.sound c.requires c.head_fields.ensures

pub put_fields-requires-2 : goal.put_fields-requires-2
put_fields-requires-2 g c = has_body c.args.payload.now (as_layout c.args.layout.now) c.args.layout.now.sound c.requires
