use Rattle.std.proofs.Common.{◌≡◌, ◌/◌, ◌++◌, refl, sym, ◌∙◌, arith, length, replicate}
use Rattle.itch_text.proofs.HexLines.{grown, written, digits_put, digits_refused, no_digits, odd_digits}
use Rattle.itch_text.proofs.hex_lines.put_digits.Goals as goal
use Rattle.itch_text.proofs.hex_lines.put_digits.Goals.{then-is_empty-via-then-is_empty, then-is_empty-via-else-is_empty+then-digits-ne0}

pub returns-then-is_empty : goal.returns-then-is_empty
returns-then-is_empty g c = elim c.then-is_empty.branch [
  | then-is_empty-via-then-is_empty w ↦ (refl, no_digits c.args.digits.now (sym c.is_empty.ensures ∙ w.if-is_empty.true))
  | then-is_empty-via-else-is_empty+then-digits-ne0 w ↦ (refl, odd_digits c.args.digits.now w.if-digits-ne0.true)
]

pub returns-in-Ok : goal.returns-in-Ok
returns-in-Ok g c =
    let old = c.args.out.now.items in
    let start : length old ≡ c.len-start.result = omega (arith, c.args.out.now.ok.0, c.len-start.ensures) in
    let room : c.resize.new.self.items ≡ old ++ replicate (length c.args.digits.now / 2) 0 = grown old c.resize.new.self.items c.len-start.result (length c.args.digits.now / 2) _ start (omega (arith, c.args.out.now.ok.0)) c.in_ok-resize.ensures.items in
    digits_put c.args.digits.now old c.resize.new.self.items c.as_mut_slice-bytes.result.now c.decode_to_slice.new.out c.len-start.result c.resize.new.self.len (sym c.is_empty.ensures ∙ c.if-is_empty.false) c.if-digits-ne0.false start room c.as_mut_slice-bytes.ensures.value (c.in_ok-resize.ensures.len) (written _ c.decode_to_slice.result c.in-Ok.field-0 c.decode_to_slice.new.out c.decode_to_slice.ensures.value c.in-Ok.is)

pub returns-in-Err : goal.returns-in-Err
returns-in-Err g c =
    let old = c.args.out.now.items in
    let start : length old ≡ c.len-start.result = omega (arith, c.args.out.now.ok.0, c.len-start.ensures) in
    let room : c.resize.new.self.items ≡ old ++ replicate (length c.args.digits.now / 2) 0 = grown old c.resize.new.self.items c.len-start.result (length c.args.digits.now / 2) _ start (omega (arith, c.args.out.now.ok.0)) c.in_ok-resize.ensures.items in
    (refl, digits_refused c.args.digits.now old c.resize.new.self.items c.as_mut_slice-bytes.result.now c.decode_to_slice.new.out c.len-start.result c.decode_to_slice.result c.in-Err.field-0 c.if-digits-ne0.false start room c.as_mut_slice-bytes.ensures.value c.decode_to_slice.ensures.value c.in-Err.is)
