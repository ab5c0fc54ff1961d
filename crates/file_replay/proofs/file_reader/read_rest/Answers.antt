use Rattle.std.proofs.Common.{◌∙◌, Err, ℕ, sym, subst, ap, arith}
use Rattle.std.proofs.lemmas.Result.{err_from_is_err_and}
use Rattle.std.proofs.lemmas.List.{length-append}
use Rattle.binaryfile.specs.Devices.{GaveMore, HasFailed}
use Rattle.binaryfile.specs.Entries.{Contents}
use Rattle.day_segments.specs.Reading.{IsWholeFile, Stops, followed_by}
use Rattle.day_segments.proofs.SegmentCases.{all_of_it, one_more, stops, took_within}
use Rattle.file_replay.proofs.file_reader.read_rest.Goals as goal

pub returns-in_err-_segment-clause-fault : goal.returns-in_err-_segment-clause-fault
returns-in_err-_segment-clause-fault g c =
    let left = g.R.Read.remaining in
    let same = err_from_is_err_and c.from_residual.result c.from_residual.ensures.1 in
    let found = c.in_err-_segment.ensures {u = tt} in
    let most = c.loop-segment.invariant.most in
    rw same.1 (λ start before has messages.
    let now = c.loop-segment.invariant.so_far start before has in
    subst (Stops start (left c.next.new.feed.device) c.args.reader.now.most messages) (sym same.2)
    (stops start (left c.next.new.feed.device) c.args.reader.now.most messages c.in_err-_segment.field-0.0
    (λ is. subst (GaveMore start (left c.next.new.feed.device)) most (found.too_many_bytes (ap Err is) start now.0 now.1)) (λ is. found.not_messages (ap Err is))))

pub returns-in_err-_segment-clause-taken : goal.returns-in_err-_segment-clause-taken
returns-in_err-_segment-clause-taken g c = λ start before has.
    let now = c.loop-segment.invariant.so_far start before has in
    took_within start (g.R.Read.remaining c.next.new.feed.device) c.loop-segment.reader.most c.args.reader.now.most c.loop-segment.invariant.most (c.next.ensures.taken start now.0 now.1)

pub loop-segment-preserved : goal.loop-segment-preserved
loop-segment-preserved g c = record {
  so_far = λ start before has.
      let now = c.loop-segment.invariant.so_far start before has in
      let segment : Contents = c.in-Some._segment in
      let read = one_more start (g.R.Read.remaining c.next.new.feed.device) c.loop-segment.reader.most now.0 c.next.new.self _ segment c.in-Some.is ((c.in_ok-_segment.ensures {u = tt}).read start now.0 now.1) in
      (followed_by now.0 segment, read, omega (arith, now.2, length-append now.0.payloads segment.payloads));
  most = c.next.ensures.most ∙ c.loop-segment.invariant.most;
  working = λ failed.
      let same = c.loop-segment.invariant.working failed in
      c.next.ensures.for_good (subst HasFailed (sym same) failed) ∙ same;
}

pub returns-clause-whole : goal.returns-clause-whole
returns-clause-whole g c = λ start before has.
    let now = c.loop-segment.invariant.so_far start before has in
    let whole = all_of_it start (g.R.Read.remaining c.next.new.feed.device) c.loop-segment.reader.most now.0 c.next.new.self _ c.in_default.is ((c.in_ok-_segment.ensures {u = tt}).read start now.0 now.1) in
    (now.0, subst (λ (most : ℕ). IsWholeFile start (g.R.Read.remaining c.next.new.feed.device) most now.0) c.loop-segment.invariant.most whole, now.2)

pub returns-clause-taken : goal.returns-clause-taken
returns-clause-taken g c = λ start before has.
    let now = c.loop-segment.invariant.so_far start before has in
    took_within start (g.R.Read.remaining c.next.new.feed.device) c.loop-segment.reader.most c.args.reader.now.most c.loop-segment.invariant.most (c.next.ensures.taken start now.0 now.1)
