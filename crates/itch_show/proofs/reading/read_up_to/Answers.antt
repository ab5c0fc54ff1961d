use Rattle.std.proofs.Common.{◌∙◌, ◌-◌, Err, IfSome, inl, inr, length, arith, ap, refl, sym, subst}
use Rattle.std.proofs.lemmas.Bool.{false≢true, false_from_ne_true}
use Rattle.std.proofs.lemmas.List.{length-append}
use Rattle.std.proofs.lemmas.Result.{err_from_is_err_and}
use Rattle.std.specs.Prelude.{IsTrue}
use Rattle.binaryfile.specs.Devices.{GaveMore}
use Rattle.binaryfile.specs.Entries.{Contents}
use Rattle.day_segments.specs.Segments.{IsSegment}
use Rattle.day_segments.proofs.SegmentCases.{all_of_it, one_more, took_within}
use Rattle.engine_rules.specs.FaultOrigins.{fault_of_load}
use Rattle.itch_show.specs.Parts.{Exceeds, GavePart}
use Rattle.itch_show.proofs.ReadingParts.{along_first, along_segment, enough, had_failed, needs_last, says_nothing, stopped, too_many, whole}
use Rattle.itch_show.proofs.reading.read_up_to.Goals as goal

pub returns-then-failed-clause-fault : goal.returns-then-failed-clause-fault
returns-then-failed-clause-fault g c = had_failed (g.R.Read.remaining c.args.feed.now.device) c.args.limits

pub segments-init : goal.segments-init
segments-init g c = record {
  so_far = along_first (g.R.Read.remaining c.args.feed.now.device) c.new-reader.result c.args.limits c.args.place.now _ _ _
      (c.new-reader.ensures.read (g.R.Read.remaining c.args.feed.now.device)) c.is_reached-reached.ensures c.new.ensures.items c.requires.none;
  most = c.new-reader.ensures.most;
  size = c.new-reader.ensures.size;
  needed = inl refl;
  works = sym c.failed.ensures ∙ c.if-failed.false;
}

pub returns-in_err-next-clause-fault : goal.returns-in_err-next-clause-fault
returns-in_err-next-clause-fault g c =
    let start = g.R.Read.remaining c.args.feed.now.device in
    let next = g.R.Read.remaining c.next.new.feed.device in
    let along = c.segments.invariant.so_far in
    let found = c.in_err-next.ensures {u = tt} in
    let same = err_from_is_err_and c.from_residual.result c.from_residual.ensures.1 in
    rw same.1 (subst (λ fault. GavePart start next (Exceeds c.args.limits (fault_of_load fault))) (sym same.2)
    (stopped start next c.args.limits _ c.in_err-next.field-0.0 (c.next.ensures.taken start along.contents along.read)
    (λ is. subst (GaveMore start next) c.segments.invariant.most (found.too_many_bytes (ap Err is) start along.contents along.read))
    (λ is. found.not_messages (ap Err is))))

pub returns-in_err-next-clause-taken : goal.returns-in_err-next-clause-taken
returns-in_err-next-clause-taken g c =
    let along = c.segments.invariant.so_far in
    took_within _ _ _ c.args.limits.bytes c.segments.invariant.most (c.next.ensures.taken (g.R.Read.remaining c.args.feed.now.device) along.contents along.read)

pub returns-in_default-clause-read : goal.returns-in_default-clause-read
returns-in_default-clause-read g c =
    let start = g.R.Read.remaining c.args.feed.now.device in
    let next = g.R.Read.remaining c.next.new.feed.device in
    let along = c.segments.invariant.so_far in
    whole start _ c.segments.reader c.args.limits c.args.place.now _ _ _ _ along (λ on. false≢true (sym c.segments-test.true ∙ on)) next
    (all_of_it start next c.segments.reader.most along.contents c.next.new.self _ c.in_default.is ((c.in_ok-next.ensures {u = tt}).read start along.contents along.read))

pub returns-in_default-clause-taken : goal.returns-in_default-clause-taken
returns-in_default-clause-taken g c =
    let along = c.segments.invariant.so_far in
    took_within _ _ _ c.args.limits.bytes c.segments.invariant.most (c.next.ensures.taken (g.R.Read.remaining c.args.feed.now.device) along.contents along.read)

pub returns-then-messages-from-clause-fault : goal.returns-then-messages-from-clause-fault
returns-then-messages-from-clause-fault g c =
    let start = g.R.Read.remaining c.args.feed.now.device in
    let next = g.R.Read.remaining c.next.new.feed.device in
    let along = c.segments.invariant.so_far in
    let read = one_more start next c.segments.reader.most along.contents c.next.new.self _ c.in-Some.next c.in-Some.is
    ((c.in_ok-next.ensures {u = tt}).read start along.contents along.read) in
    too_many start next c.args.limits c.next.new.self _ read (omega (arith, c.if-messages-from.true, c.messages.ensures, c.from.ensures))

pub returns-then-messages-from-clause-taken : goal.returns-then-messages-from-clause-taken
returns-then-messages-from-clause-taken g c =
    let along = c.segments.invariant.so_far in
    took_within _ _ _ c.args.limits.bytes c.segments.invariant.most (c.next.ensures.taken (g.R.Read.remaining c.args.feed.now.device) along.contents along.read)

pub take_part-requires : goal.take_part-requires
take_part-requires g c =
    let start = g.R.Read.remaining c.args.feed.now.device in
    let next = g.R.Read.remaining c.next.new.feed.device in
    let along = c.segments.invariant.so_far in
    let segment : Contents = c.in-Some.next in
    let read = one_more start next c.segments.reader.most along.contents c.next.new.self _ segment c.in-Some.is
    ((c.in_ok-next.ensures {u = tt}).read start along.contents along.read) in
    let all = along.goes_on (λ on. false≢true (sym c.segments-test.true ∙ on)) in (
      c.args.taker.now,
      along.day,
      along.taken,
      along.number_is,
      all.1,
      omega (arith, c.if-messages-from.false, c.messages.ensures, c.from.ensures, read.messages_are, ap (λ l. length l) all.0, length-append along.contents.payloads segment.payloads),
    )

pub returns-in_err-part-clause-fault : goal.returns-in_err-part-clause-fault
returns-in_err-part-clause-fault g c =
    let start = g.R.Read.remaining c.args.feed.now.device in
    let next = g.R.Read.remaining c.next.new.feed.device in
    let along = c.segments.invariant.so_far in
    let same = err_from_is_err_and c.from_residual-in_err-part.result c.from_residual-in_err-part.ensures.1 in
    rw same.1 (subst (λ fault. GavePart start next (Exceeds c.args.limits (fault_of_load fault))) (sym same.2)
    (says_nothing start next c.args.limits _ (c.next.ensures.taken start along.contents along.read)))

pub returns-in_err-part-clause-taken : goal.returns-in_err-part-clause-taken
returns-in_err-part-clause-taken g c =
    let along = c.segments.invariant.so_far in
    took_within _ _ _ c.args.limits.bytes c.segments.invariant.most (c.next.ensures.taken (g.R.Read.remaining c.args.feed.now.device) along.contents along.read)

pub move_on-requires-clause-fits : goal.move_on-requires-clause-fits
move_on-requires-clause-fits g c =
    let start = g.R.Read.remaining c.args.feed.now.device in
    let next = g.R.Read.remaining c.next.new.feed.device in
    let along = c.segments.invariant.so_far in
    let segment : Contents = c.in-Some.next in
    let read = one_more start next c.segments.reader.most along.contents c.next.new.self _ segment c.in-Some.is
    ((c.in_ok-next.ensures {u = tt}).read start along.contents along.read) in
    let all = along.goes_on (λ on. false≢true (sym c.segments-test.true ∙ on)) in
    let takes = c.in_ok-part.ensures {u = tt} c.args.taker.now along.day along.taken along.number_is all.1 in
    omega (arith, takes.few, along.number_is, c.if-messages-from.false, c.messages.ensures, c.from.ensures, read.messages_are, ap (λ l. length l) all.0, length-append along.contents.payloads segment.payloads)

pub returns-in_err-move_on-clause-fault : goal.returns-in_err-move_on-clause-fault
returns-in_err-move_on-clause-fault g c =
    let start = g.R.Read.remaining c.args.feed.now.device in
    let next = g.R.Read.remaining c.next.new.feed.device in
    let along = c.segments.invariant.so_far in
    let same = err_from_is_err_and c.from_residual-in_err-move_on.result c.from_residual-in_err-move_on.ensures.1 in
    rw same.1 (subst (λ fault. GavePart start next (Exceeds c.args.limits (fault_of_load fault))) (sym same.2)
    (says_nothing start next c.args.limits _ (c.next.ensures.taken start along.contents along.read)))

pub returns-in_err-move_on-clause-taken : goal.returns-in_err-move_on-clause-taken
returns-in_err-move_on-clause-taken g c =
    let along = c.segments.invariant.so_far in
    took_within _ _ _ c.args.limits.bytes c.segments.invariant.most (c.next.ensures.taken (g.R.Read.remaining c.args.feed.now.device) along.contents along.read)

pub segments-preserved : goal.segments-preserved
segments-preserved g c =
    let start = g.R.Read.remaining c.args.feed.now.device in
    let next = g.R.Read.remaining c.next.new.feed.device in
    let along = c.segments.invariant.so_far in
    let segment : Contents = c.in-Some.next in
    let read = one_more start next c.segments.reader.most along.contents c.next.new.self _ segment c.in-Some.is
    ((c.in_ok-next.ensures {u = tt}).read start along.contents along.read) in
    let off : ¬ IsTrue c.segments.reached = λ on. false≢true (sym c.segments-test.true ∙ on) in
    let all = along.goes_on off in
    let takes = c.in_ok-part.ensures {u = tt} c.args.taker.now along.day along.taken along.number_is all.1 in
    let moved = c.in_ok-move_on.ensures {u = tt} in
    record {
      so_far = along_segment start _ c.segments.reader c.args.limits c.args.place.now _ _ _ _ along off next segment c.next.new.self _ _ _ _ _ read
          (omega (arith, c.if-messages-from.false, c.messages.ensures, c.from.ensures)) takes moved.number (moved.payload along.day along.payload_is);
      most = c.next.ensures.most ∙ c.segments.invariant.most;
      size = c.next.ensures.size ∙ c.segments.invariant.size;
      needed = needs_last start _ c.segments.reader c.args.limits c.args.place.now _ _ _ _ along off next segment
          (subst (λ found. IfSome found (IsSegment (g.R.Read.remaining c.segments.feed.device) next c.segments.reader.carried c.segments.reader.size (c.segments.reader.most - c.segments.reader.given))) c.in-Some.is ((c.in_ok-next.ensures {u = tt}).segment))
          c.args.segment c.segments.invariant.size;
      works = false_from_ne_true _ (λ failed. let same = sym (c.in_ok-next.was {u = tt}) ∙ c.next.ensures.failed.1 failed in let never : ⊥ = cc in never);
    }

pub returns-clause-read : goal.returns-clause-read
returns-clause-read g c =
    enough (g.R.Read.remaining c.args.feed.now.device) _ c.segments.reader c.args.limits c.args.place.now _ _ _ _ c.segments.invariant.so_far c.segments-test.false

pub returns-in_default-clause-needed : goal.returns-in_default-clause-needed
returns-in_default-clause-needed g c =
    let start = g.R.Read.remaining c.args.feed.now.device in
    let next = g.R.Read.remaining c.next.new.feed.device in
    let along = c.segments.invariant.so_far in
    λ _. inr (inl ((all_of_it start next c.segments.reader.most along.contents c.next.new.self _ c.in_default.is ((c.in_ok-next.ensures {u = tt}).read start along.contents along.read)).gave.ended))

pub returns-clause-needed : goal.returns-clause-needed
returns-clause-needed g c = λ _. c.segments.invariant.needed
