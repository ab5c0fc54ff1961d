use Rattle.itch_text.proofs.Escapes.{pair_decoded, pair_refused}
use Rattle.itch_text.proofs.quoted.hex_byte.Goals as goal

pub returns-in-Ok : goal.returns-in-Ok
returns-in-Ok c = pair_decoded c.args.high c.args.low c.decode_to_slice.result c.in-Ok.field-0 c.decode_to_slice.new.out c.decode_to_slice.ensures.value c.in-Ok.is

pub returns-in-Err : goal.returns-in-Err
returns-in-Err c = pair_refused c.args.high c.args.low c.decode_to_slice.result c.in-Err.field-0 c.decode_to_slice.new.out c.decode_to_slice.ensures.value c.in-Err.is
