use Rattle.std.proofs.Common.{◌≡◌, ◌<◌, ◌≤◌, ◌++◌, ◌∙◌, false, true, Err, Ok, ℕ, length, sym, subst, ap, arith}
use Rattle.std.proofs.lemmas.Result.{err_from_is_err_and}
use Rattle.std.proofs.lemmas.List.{length-append}
use Rattle.binaryfile.specs.Devices.{HasFailed}
use Rattle.binaryfile.specs.Entries.{Contents}
use Rattle.binaryfile.specs.declared.load.LoadFault.TheVariants.{TooManyMessages}
use Rattle.day_segments.specs.Reading.{IsWholeFile, Reading, Stops, followed_by, nothing_read}
use Rattle.day_segments.proofs.SegmentCases.{all_of_it, none_more, one_more, stops, took_within}
use Rattle.day_replay.specs.Dealing.{IsDealt}
use Rattle.file_replay.specs.Files.{FileReading, IsFurther, IsSoFar}
use Rattle.file_replay.proofs.Faults.{failed_by}
use Rattle.file_replay.proofs.Further.{file_of, one_further, reads_not, reads_so, some_more}
use Rattle.file_replay.proofs.Tails.{tail_fits}
use Rattle.file_replay.proofs.file_reader.FileReader.deal_segment.Goals as goal

pub returns-in_err-segment-clause-reads : goal.returns-in_err-segment-clause-reads
returns-in_err-segment-clause-reads g c =
    let left = g.R.Read.remaining in
    let now = left c.next.new.feed.device in
    let inside = c.self.inside in
    let same = err_from_is_err_and c.from_residual.result c.from_residual.ensures.1 in
    let found = c.in_err-segment.ensures {u = tt} in
    rw same.1 (reads_not left c.args.feed.now c.next.new.feed c.args.self.now inside.reader c.next.new.self inside.end inside.end inside.limit c.self.view_is c.next.ensures.taken c.next.ensures.most c.next.ensures.for_good same.0
    (λ start before has.
    subst (Stops start now inside.reader.most inside.limit) (sym same.2)
    (stops start now inside.reader.most inside.limit c.in_err-segment.field-0.0 (λ is. found.too_many_bytes (ap Err is) start before has) (λ is. found.not_messages (ap Err is))))
    (failed_by (HasFailed c.next.new.feed) c.next.result c.in_err-segment.field-0.0 same.0 c.in_err-segment.was same.2 c.next.ensures.failed))

pub returns-in_default-clause-deals : goal.returns-in_default-clause-deals
returns-in_default-clause-deals g c = λ start before has number.
    let at = subst (λ (file : FileReading). IsFurther start (g.R.Read.remaining c.args.feed.now.device) before file c.args.dealt.now) (sym c.self.view_is) has in
    let found = c.in_ok-segment.ensures {u = tt} in
    record {
      contents = at.contents;
      so_far = record {
        read = found.ended (ap Ok c.in_default.is) start at.contents at.so_far.read;
        few = at.so_far.few;
        marked_is = at.so_far.marked_is;
        tail_is = at.so_far.tail_is;
      };
      payloads = at.payloads;
      follow = at.follow;
      dealt_is = at.dealt_is;
    }

pub returns-in_default-clause-whole : goal.returns-in_default-clause-whole
returns-in_default-clause-whole g c = λ ended start contents has.
    let left = g.R.Read.remaining in
    let now = left c.next.new.feed.device in
    let at = subst (IsSoFar start (left c.args.feed.now.device) contents) (sym c.self.view_is) has in
    let found = c.in_ok-segment.ensures {u = tt} in
    let whole = all_of_it start now c.self.inside.reader.most contents c.next.new.self _ c.in_default.is (found.read start contents at.read) in (
      record { read = found.ended (ap Ok c.in_default.is) start contents at.read; few = at.few; marked_is = at.marked_is; tail_is = at.tail_is },
      subst (λ (most : ℕ). IsWholeFile start now most contents) (sym c.next.ensures.most) whole,
    )

pub returns-in_default-clause-reads : goal.returns-in_default-clause-reads
returns-in_default-clause-reads g c =
    let left = g.R.Read.remaining in
    let inside = c.self.inside in
    let found = c.in_ok-segment.ensures {u = tt} in
    let stays = none_more (left c.args.feed.now.device) (left c.next.new.feed.device) 0 nothing_read c.next.new.self inside.reader _ _ c.in_default.is found.further in
    reads_so left c.args.feed.now c.next.new.feed c.args.self.now inside.reader c.next.new.self inside.end inside.end inside.limit c.self.view_is c.next.ensures.taken c.next.ensures.most c.next.ensures.for_good false
    (omega (arith, ap (λ (r : Reading). r.given) stays)) (λ is. let never : ⊥ = cc in absurd never) (λ failed. let told = found.failed.1 failed in cc)

pub returns-in_err-read_rest-clause-reads : goal.returns-in_err-read_rest-clause-reads
returns-in_err-read_rest-clause-reads g c =
    let left = g.R.Read.remaining in
    let now = left c.read_rest.new.feed.device in
    let inside = c.self.inside in
    let segment : Contents = c.in-Some.segment in
    let same = err_from_is_err_and c.from_residual-in_err-read_rest.result c.from_residual-in_err-read_rest.ensures.1 in
    let found = c.in_ok-segment.ensures {u = tt} in
    let rest = c.in_err-read_rest.ensures {u = tt} in
    rw same.1 (reads_not left c.args.feed.now c.read_rest.new.feed c.args.self.now inside.reader c.read_rest.new.reader inside.end inside.end inside.limit c.self.view_is
    (λ start before has.
    let read = one_more start (left c.next.new.feed.device) inside.reader.most before c.next.new.self _ segment c.in-Some.is (found.read start before has) in
    took_within start now c.next.new.self.most inside.reader.most c.next.ensures.most (c.read_rest.ensures.taken start (followed_by before segment) read))
    (c.read_rest.ensures.most ∙ c.next.ensures.most)
    (λ failed.
    let stays = c.next.ensures.for_good failed in
    c.read_rest.ensures.for_good (subst HasFailed (sym stays) failed) ∙ stays)
    same.0
    (λ start before has.
    let read = one_more start (left c.next.new.feed.device) inside.reader.most before c.next.new.self _ segment c.in-Some.is (found.read start before has) in
    subst (Stops start now inside.reader.most inside.limit) (sym same.2)
    (subst (λ (most : ℕ). Stops start now most inside.limit c.in_err-read_rest.field-0.0) c.next.ensures.most (rest.fault start (followed_by before segment) read inside.limit)))
    (failed_by (HasFailed c.read_rest.new.feed) c.read_rest.result c.in_err-read_rest.field-0.0 same.0 c.in_err-read_rest.was same.2 c.read_rest.ensures.failed))

pub returns-then-messages-from-clause-reads : goal.returns-then-messages-from-clause-reads
returns-then-messages-from-clause-reads g c =
    let left = g.R.Read.remaining in
    let now = left c.read_rest.new.feed.device in
    let inside = c.self.inside in
    let segment : Contents = c.in-Some.segment in
    let found = c.in_ok-segment.ensures {u = tt} in
    let rest = c.in_ok-read_rest.ensures {u = tt} in
    reads_not left c.args.feed.now c.read_rest.new.feed c.args.self.now inside.reader c.read_rest.new.reader inside.end inside.end inside.limit c.self.view_is
    (λ start before has.
    let read = one_more start (left c.next.new.feed.device) inside.reader.most before c.next.new.self _ segment c.in-Some.is (found.read start before has) in
    took_within start now c.next.new.self.most inside.reader.most c.next.ensures.most (c.read_rest.ensures.taken start (followed_by before segment) read))
    (c.read_rest.ensures.most ∙ c.next.ensures.most)
    (λ failed.
    let stays = c.next.ensures.for_good failed in
    c.read_rest.ensures.for_good (subst HasFailed (sym stays) failed) ∙ stays)
    TooManyMessages
    (λ start before has.
    let read = one_more start (left c.next.new.feed.device) inside.reader.most before c.next.new.self _ segment c.in-Some.is (found.read start before has) in
    let whole = rest.whole start (followed_by before segment) read in
    (whole.0, subst (λ (most : ℕ). IsWholeFile start now most whole.0) c.next.ensures.most whole.1, omega (arith, whole.2, read.messages_are, c.messages.ensures, c.from.ensures, c.if-messages-from.true)))
    (λ is. let never : ⊥ = cc in absurd never, λ failed. let told = rest.failed.1 failed in (let never : ⊥ = cc in absurd never))

pub deal-requires : goal.deal-requires
deal-requires g c =
    let left = g.R.Read.remaining in
    let r = c.requires in
    let at = subst (λ (file : FileReading). IsFurther r.0 (left c.args.feed.now.device) r.1 file c.args.dealt.now) (sym c.self.view_is) r.2 in
    let segment : Contents = c.in-Some.segment in
    let read = one_more r.0 (left c.next.new.feed.device) c.self.inside.reader.most at.contents c.next.new.self _ segment c.in-Some.is ((c.in_ok-segment.ensures {u = tt}).read r.0 at.contents at.so_far.read) in
    record {
      dealt = (
        at.payloads,
        subst (λ (n : ℕ). IsDealt n at.payloads c.args.dealt.now) (sym r.3) at.dealt_is,
        omega (
          arith,
          r.3,
          read.messages_are,
          length-append at.contents.payloads segment.payloads,
          ap length at.follow,
          length-append r.1.payloads at.payloads,
          c.messages.ensures,
          c.from.ensures,
          c.if-messages-from.false,
          c.self.invariant.1,
        ),
      );
    }

pub returns-in_err-deal-clause-reads : goal.returns-in_err-deal-clause-reads
returns-in_err-deal-clause-reads g c =
    let left = g.R.Read.remaining in
    let now = left c.next.new.feed.device in
    let inside = c.self.inside in
    let same = err_from_is_err_and c.from_residual-in_err-deal.result c.from_residual-in_err-deal.ensures.1 in
    let found = c.in_ok-segment.ensures {u = tt} in
    rw same.1 (reads_not left c.args.feed.now c.next.new.feed c.args.self.now inside.reader c.next.new.self inside.end inside.end inside.limit c.self.view_is c.next.ensures.taken c.next.ensures.most c.next.ensures.for_good same.0
    (λ start before has. subst (Stops start now inside.reader.most inside.limit) (sym same.2) tt)
    (λ is. let read = same.2 in let never : ⊥ = cc in absurd never, λ failed. let told = found.failed.1 failed in (let never : ⊥ = cc in absurd never)))

pub after-self-inside-requires : goal.after-self-inside-requires
after-self-inside-requires g c =
    let left = g.R.Read.remaining in
    let r = c.requires in
    let inside = c.self.inside in
    let at = subst (λ (file : FileReading). IsFurther r.0 (left c.args.feed.now.device) r.1 file c.args.dealt.now) (sym c.self.view_is) r.2 in
    let segment : Contents = c.in-Some.segment in
    let read = one_more r.0 (left c.next.new.feed.device) inside.reader.most at.contents c.next.new.self _ segment c.in-Some.is ((c.in_ok-segment.ensures {u = tt}).read r.0 at.contents at.so_far.read) in
    tail_fits r.0 (left c.args.feed.now.device) (left c.next.new.feed.device) at.contents segment (file_of inside.reader inside.end inside.limit) (file_of c.next.new.self inside.end inside.limit) at.so_far read c.self.invariant.0 c.next.ensures.most

pub returns-clause-deals : goal.returns-clause-deals
returns-clause-deals g c = λ start before has number.
    let left = g.R.Read.remaining in
    let inside = c.self.inside in
    let at = subst (λ (file : FileReading). IsFurther start (left c.args.feed.now.device) before file c.args.dealt.now) (sym c.self.view_is) has in
    let segment : Contents = c.in-Some.segment in
    let read = one_more start (left c.next.new.feed.device) inside.reader.most at.contents c.next.new.self _ segment c.in-Some.is ((c.in_ok-segment.ensures {u = tt}).read start at.contents at.so_far.read) in
    one_further start (left c.args.feed.now.device) (left c.next.new.feed.device) before (file_of inside.reader inside.end inside.limit) (file_of c.next.new.self c.after-self-inside.result inside.limit) c.args.dealt.now c.deal.new.self at segment read c.after-self-inside.ensures
    (omega (arith, read.messages_are, c.messages.ensures, c.from.ensures, c.if-messages-from.false))
    (λ payloads is.
    subst (λ (n : ℕ). IsDealt n (payloads ++ segment.payloads) c.deal.new.self) number
    ((c.in_ok-deal.ensures {u = tt}).dealt payloads (subst (λ (n : ℕ). IsDealt n payloads c.args.dealt.now) (sym number) is)))

pub returns-clause-reads : goal.returns-clause-reads
returns-clause-reads g c =
    let left = g.R.Read.remaining in
    let inside = c.self.inside in
    let segment : Contents = c.in-Some.segment in
    let found = c.in_ok-segment.ensures {u = tt} in
    let further = some_more (c.next.new.self ≡ inside.reader) (λ _. (inside.reader.given < c.next.new.self.given) × (c.next.new.self.given ≤ c.next.new.self.most)) _ segment c.in-Some.is found.further in
    reads_so left c.args.feed.now c.next.new.feed c.args.self.now inside.reader c.next.new.self inside.end c.after-self-inside.result inside.limit c.self.view_is c.next.ensures.taken c.next.ensures.most c.next.ensures.for_good true
    (omega (arith, further.0)) (λ is. further.0) (λ failed. let told = found.failed.1 failed in cc)
