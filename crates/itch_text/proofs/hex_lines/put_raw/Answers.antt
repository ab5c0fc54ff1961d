use Rattle.std.proofs.Common.{refl, arith}
use Rattle.itch_text.specs.Words.{words}
use Rattle.itch_text.proofs.HexLines.{raw_too_long, raw_put}
use Rattle.itch_text.proofs.hex_lines.put_raw.Goals as goal

pub returns-in_default-try_from : goal.returns-in_default-try_from
returns-in_default-try_from g c = (refl, raw_too_long (words c.args.line.now) c.in-Some.digits.now c.in-Some.ensures c.in_default-try_from.ensures)

pub returns : goal.returns
returns g c =
    raw_put c.args.out.now.items c.extend_from_slice.new.self.items c.put_digits.new.out.items (words c.args.line.now) c.in-Some.digits.now c.in-Ok.size c.put_digits.result c.in-Some.ensures c.in-Ok.ensures.1 (omega (arith, c.in-Ok.ensures)) (rw c.to_be_bytes.ensures at c.in_ok-extend_from_slice.ensures.items) c.put_digits.ensures
