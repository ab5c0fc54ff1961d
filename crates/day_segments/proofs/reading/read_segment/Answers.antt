use Rattle.std.proofs.Common.{◌≡◌, ◌∙◌, Err, List, ℕ, length, sym, subst, ap, arith}
use Rattle.byte_strings.specs.Bytes.{AreBytes}
use Rattle.binaryfile.specs.Entries.{Splits}
use Rattle.std.proofs.lemmas.Result.{err_from_is_err_and}
use Rattle.std.proofs.lemmas.List.{length-append}
use Rattle.binaryfile.specs.declared.load.LoadFault.TheVariants.{TooManyMessages}
use Rattle.day_segments.proofs.Carried.{after, few_payloads}
use Rattle.day_segments.proofs.reading.read_segment.Goals as goal

pub returns-in_err-day-clause-not_messages : goal.returns-in_err-day-clause-not_messages
returns-in_err-day-clause-not_messages g c = λ too_many.
    let same = err_from_is_err_and c.from_residual-in_err-day.result c.from_residual-in_err-day.ensures.1 in
    let told = rw same.1 at too_many in
    let is : same.0 ≡ TooManyMessages = cc in
    let many = few_payloads _ _ ((c.in_err-day.ensures {u = tt}).too_many_messages (ap Err (sym same.2 ∙ is))) in
    let bytes = (c.in_ok-bytes.ensures {u = tt}).bytes in
    omega (arith, many, ap length bytes.are, length-append c.args.carried.now bytes.given, bytes.within, c.requires.carried, c.min-room.ensures)

pub returns-clause-segment : goal.returns-clause-segment
returns-clause-segment g c =
    let follows = (c.in_ok-bytes.ensures {u = tt}).bytes in
    let split = (c.in_ok-day.ensures {u = tt}).split in
    let long = ap length follows.are ∙ length-append c.args.carried.now follows.given in
    record {
      bytes = follows.given;
      gave = follows.gave;
      some = omega (arith, long, c.if-came-eq0.false, c.len.ensures);
      within = omega (arith, long, c.if-came-most.false, c.len.ensures);
      fits = omega (arith, follows.within, c.min-room.ensures);
      full = λ few. follows.ended (omega (arith, long, few, c.if-came-most.false, c.len.ensures, c.min-room.ensures, c.saturating_add.ensures));
      are = after c.args.carried.now follows.given (subst AreBytes (c.bytes-bytes.ensures.split.whole ∙ sym split.whole ∙ follows.are) c.bytes-bytes.ensures.are);
      split = subst (λ (bytes : List ℕ). Splits bytes c.in_ok-day.day) follows.are split;
    }
