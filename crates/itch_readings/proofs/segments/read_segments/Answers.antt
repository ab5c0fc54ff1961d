use Rattle.std.proofs.Common.{◌∙◌, ◌++◌, ◌≤◌, ℕ, Err, arith, refl, sym, ap, subst}
use Rattle.std.proofs.lemmas.Result.{err_from_is_err_and}
use Rattle.binaryfile.specs.Devices.{GaveMore, HasFailed}
use Rattle.binaryfile.specs.Entries.{Contents}
use Rattle.day_segments.specs.Reading.{IsWholeFile, Reading, Stops, nothing_read}
use Rattle.day_segments.proofs.SegmentCases.{all_of_it, none_more, one_more, stops, took_within}
use Rattle.itch_readings.proofs.FileTaken.{taken_before, taken_next}
use Rattle.itch_readings.proofs.segments.read_segments.Goals as goal
use Rattle.itch_readings.proofs.segments.read_segments.Goals.{then-messages-from+in_ok-take_segment, else-messages-from}

pub loop-reader-init : goal.loop-reader-init
loop-reader-init g c = record {
  so_far = record {
    contents = nothing_read;
    read = c.new-reader.ensures.read (g.R.Read.remaining c.args.feed.now.device);
    taken = λ _. c.requires.none;
  };
  most = c.new-reader.ensures.most;
  working = λ _. refl;
}

pub returns-in_err-next-clause-fault : goal.returns-in_err-next-clause-fault
returns-in_err-next-clause-fault g c =
    let start = g.R.Read.remaining c.args.feed.now.device in
    let next = g.R.Read.remaining c.next.new.feed.device in
    let before = c.loop-reader.invariant.so_far in
    let found = c.in_err-next.ensures {u = tt} in
    let same = err_from_is_err_and c.from_residual.result c.from_residual.ensures.1 in
    let bytes = c.args.limits.bytes in
    let messages = c.args.limits.messages in
    rw same.1 (subst (Stops start next bytes messages) (sym same.2) (stops start next bytes messages c.in_err-next.field-0.0
    (λ is. subst (GaveMore start next) c.loop-reader.invariant.most (found.too_many_bytes (ap Err is) start before.contents before.read)) (λ is. found.not_messages (ap Err is))))

pub returns-in_err-next-clause-taken : goal.returns-in_err-next-clause-taken
returns-in_err-next-clause-taken g c =
    let before = c.loop-reader.invariant.so_far in
    took_within _ _ _ c.args.limits.bytes c.loop-reader.invariant.most (c.next.ensures.taken (g.R.Read.remaining c.args.feed.now.device) before.contents before.read)

pub take_segment-requires : goal.take_segment-requires
take_segment-requires g c =
    let start = g.R.Read.remaining c.args.feed.now.device in
    let before = c.loop-reader.invariant.so_far in
    let segment : Contents = c.in-Some.next in
    let read = one_more start (g.R.Read.remaining c.next.new.feed.device) c.loop-reader.reader.most before.contents c.next.new.self _ segment c.in-Some.is
    ((c.in_ok-next.ensures {u = tt}).read start before.contents before.read) in
    let taken = taken_before start _ c.loop-reader.reader c.args.limits.messages (g.T.TakesSegments.has_taken c.args.taker.now c.loop-reader.taker) before segment.payloads c.next.new.self.messages
    read.messages_are (omega (arith, c.if-messages-from.true, c.messages.ensures, c.from.ensures)) (omega arith) in
    (c.args.taker.now, before.contents.payloads, taken.0, taken.1)

pub returns-in_err-take_segment-clause-taken : goal.returns-in_err-take_segment-clause-taken
returns-in_err-take_segment-clause-taken g c =
    let before = c.loop-reader.invariant.so_far in
    took_within _ _ _ c.args.limits.bytes c.loop-reader.invariant.most (c.next.ensures.taken (g.R.Read.remaining c.args.feed.now.device) before.contents before.read)

pub loop-reader-preserved : goal.loop-reader-preserved
loop-reader-preserved g c =
    let start = g.R.Read.remaining c.args.feed.now.device in
    let next = g.R.Read.remaining c.next.new.feed.device in
    let before = c.loop-reader.invariant.so_far in
    let segment : Contents = c.in-Some.next in
    let read = one_more start next c.loop-reader.reader.most before.contents c.next.new.self _ segment c.in-Some.is ((c.in_ok-next.ensures {u = tt}).read start before.contents before.read) in
    let Taken = g.T.TakesSegments.has_taken c.args.taker.now in
    record {
      so_far = taken_next start _ c.loop-reader.reader c.args.limits.messages (Taken c.loop-reader.taker) before next segment c.next.new.self _ read
          (elim c.if-messages-from.branch [
            | then-messages-from+in_ok-take_segment w ↦ λ few day taken.
                subst (λ taker. Taken taker (day ++ segment.payloads)) (sym w.taker-is) (w.in_ok-take_segment.ensures {u = tt} c.args.taker.now day taken)
            | else-messages-from w ↦ λ few. absurd (omega (arith, few, w.if-messages-from.false, c.messages.ensures, c.from.ensures))
          ]);
      most = c.next.ensures.most ∙ c.loop-reader.invariant.most;
      working = λ failed.
          let same = c.loop-reader.invariant.working failed in
          c.next.ensures.for_good (subst HasFailed (sym same) failed) ∙ same;
    }

pub returns-then-messages-from-2-clause-fault : goal.returns-then-messages-from-2-clause-fault
returns-then-messages-from-2-clause-fault g c =
    let start = g.R.Read.remaining c.args.feed.now.device in
    let next = g.R.Read.remaining c.next.new.feed.device in
    let before = c.loop-reader.invariant.so_far in
    let whole = all_of_it start next c.loop-reader.reader.most before.contents c.next.new.self _ c.in_default.is ((c.in_ok-next.ensures {u = tt}).read start before.contents before.read) in
    let same = none_more start next c.loop-reader.reader.most before.contents c.next.new.self c.loop-reader.reader _ _ c.in_default.is (c.in_ok-next.ensures {u = tt}).further in (
      before.contents,
      subst (λ (most : ℕ). IsWholeFile start next most before.contents) c.loop-reader.invariant.most whole,
      omega (arith, c.if-messages-from-2.true, c.messages-2.ensures, c.from-2.ensures, before.read.messages_are, ap (λ (r : Reading). r.messages) same),
    )

pub returns-then-messages-from-2-clause-taken : goal.returns-then-messages-from-2-clause-taken
returns-then-messages-from-2-clause-taken g c =
    let before = c.loop-reader.invariant.so_far in
    took_within _ _ _ c.args.limits.bytes c.loop-reader.invariant.most (c.next.ensures.taken (g.R.Read.remaining c.args.feed.now.device) before.contents before.read)

pub returns-clause-took : goal.returns-clause-took
returns-clause-took g c =
    let start = g.R.Read.remaining c.args.feed.now.device in
    let next = g.R.Read.remaining c.next.new.feed.device in
    let before = c.loop-reader.invariant.so_far in
    let whole = all_of_it start next c.loop-reader.reader.most before.contents c.next.new.self _ c.in_default.is ((c.in_ok-next.ensures {u = tt}).read start before.contents before.read) in
    let same = none_more start next c.loop-reader.reader.most before.contents c.next.new.self c.loop-reader.reader _ _ c.in_default.is (c.in_ok-next.ensures {u = tt}).further in
    let few : c.loop-reader.reader.messages ≤ c.args.limits.messages = omega (arith, c.if-messages-from-2.false, c.messages-2.ensures, c.from-2.ensures, ap (λ (r : Reading). r.messages) same) in
    record {
      contents = before.contents;
      whole = subst (λ (most : ℕ). IsWholeFile start next most before.contents) c.loop-reader.invariant.most whole;
      few = omega (arith, few, before.read.messages_are);
      holds = before.taken few;
    }

pub returns-clause-taken : goal.returns-clause-taken
returns-clause-taken g c =
    let before = c.loop-reader.invariant.so_far in
    took_within _ _ _ c.args.limits.bytes c.loop-reader.invariant.most (c.next.ensures.taken (g.R.Read.remaining c.args.feed.now.device) before.contents before.read)
