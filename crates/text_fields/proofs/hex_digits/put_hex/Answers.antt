use Rattle.text_fields.proofs.HexDigits.{encode_none, put_more}
use Rattle.text_fields.proofs.hex_digits.put_hex.Goals as goal

pub loop-byte-init : goal.loop-byte-init
loop-byte-init g c = encode_none c.args.text.now.items

pub loop-byte-preserved : goal.loop-byte-preserved
loop-byte-preserved g c =
    put_more c.args.text.now.items c.loop-byte.text.items c.extend_from_slice.new.self.items c.digits_of.result c.args.bytes.now c.loop-byte.byte-index c.loop-byte-test.true c.loop-byte.invariant c.digits_of.ensures (c.in_ok-extend_from_slice.ensures {u = tt}).items
