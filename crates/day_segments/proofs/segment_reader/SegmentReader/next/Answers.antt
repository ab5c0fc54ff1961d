use Rattle.std.proofs.Common.{◌≡◌, ◌∙◌, ◌+◌, ◌-◌, Err, List, ℕ, length, sym, subst, ap, arith}
use Rattle.std.proofs.lemmas.Result.{err_from_is_err_and}
use Rattle.binaryfile.specs.Devices.{GaveMore, GaveUpTo}
use Rattle.binaryfile.specs.Entries.{Contents}
use Rattle.binaryfile.specs.declared.load.LoadFault.TheVariants.{TooManyBytes}
use Rattle.day_segments.specs.Reading.{Reading}
use Rattle.day_segments.specs.Segments.{IsSegment}
use Rattle.day_segments.proofs.FurtherReading.{counted_on, found, has_read_on, segment_long, took_more, took_up_to}
use Rattle.day_segments.proofs.segment_reader.SegmentReader.next.Goals as goal

pub returns-in_err-segment-clause-too_many_bytes : goal.returns-in_err-segment-clause-too_many_bytes
returns-in_err-segment-clause-too_many_bytes g c = λ too_many start before has.
    let same = err_from_is_err_and c.from_residual.result c.from_residual.ensures.1 in
    let told = rw same.1 at too_many in
    let is : same.0 ≡ TooManyBytes = cc in
    took_more start _ before c.args.self.now has _ _ (ap (λ (r : Reading). r.most - r.given) c.self.view_is) ((c.in_err-segment.ensures {u = tt}).too_many_bytes (ap Err (sym same.2 ∙ is)))

pub returns-in_err-segment-clause-taken : goal.returns-in_err-segment-clause-taken
returns-in_err-segment-clause-taken g c = λ start before has.
    took_up_to start _ before c.args.self.now has _ _ (ap (λ (r : Reading). r.most - r.given) c.self.view_is) c.read_segment.ensures.taken

pub returns-in_err-carried-clause-taken : goal.returns-in_err-carried-clause-taken
returns-in_err-carried-clause-taken g c = λ start before has.
    took_up_to start _ before c.args.self.now has _ _ (ap (λ (r : Reading). r.most - r.given) c.self.view_is) c.read_segment.ensures.taken

pub returns-clause-taken : goal.returns-clause-taken
returns-clause-taken g c = λ start before has.
    took_up_to start _ before c.args.self.now has _ _ (ap (λ (r : Reading). r.most - r.given) c.self.view_is) c.read_segment.ensures.taken

pub invariant_of-self : goal.invariant_of-self
invariant_of-self g c =
    let old = c.self.invariant in
    let segment : Contents = c.in-Some.segment in
    let is = found (g.R.Read.remaining c.args.feed.now.device) (g.R.Read.remaining c.read_segment.new.feed.device) c.deref.result.now c.self.inside.size (c.self.inside.most - c.self.inside.given)
    _ segment c.in-Some.is (c.in_ok-segment.ensures {u = tt}).segment in
    let long = segment_long c.deref.result.now is.bytes c.bytes.result.now segment c.bytes.ensures.split is.split in
    let counted = counted_on c.deref.result.now is.bytes segment is.split in
    record {
      short = (c.in_ok-carried.ensures {u = tt}).long;
      counted = omega (arith, long, counted, old.counted, c.from.ensures, c.len-2.ensures, c.len.ensures, ap length c.deref.ensures.value, ap length (c.in_ok-carried.ensures {u = tt}).carried);
      within = omega (arith, long, is.within, old.within, c.len.ensures, ap length c.deref.ensures.value);
      some = old.some;
      small = old.small;
      limited = old.limited;
    }

pub returns-clause-read : goal.returns-clause-read
returns-clause-read g c = λ start before has.
    let segment : Contents = c.in-Some.segment in
    let is = found (g.R.Read.remaining c.args.feed.now.device) (g.R.Read.remaining c.read_segment.new.feed.device) c.deref.result.now c.self.inside.size (c.self.inside.most - c.self.inside.given)
    _ segment c.in-Some.is (c.in_ok-segment.ensures {u = tt}).segment in
    let long = segment_long c.deref.result.now is.bytes c.bytes.result.now segment c.bytes.ensures.split is.split in
    let given = ap (λ (r : Reading). r.given) (sym c.self.view_is) in
    let messages = ap (λ (r : Reading). r.messages) (sym c.self.view_is) in
    has_read_on start _ before c.args.self.now has _ _ (ap (λ (r : Reading). r.most - r.given) c.self.view_is) c.deref.result.now c.self.inside.size segment _
    (c.deref.ensures.value ∙ ap (λ (r : Reading). r.carried) c.self.view_is) is (c.in_ok-carried.ensures {u = tt}).carried
    (omega (arith, long, given, c.len.ensures, ap length c.deref.ensures.value)) (omega (arith, messages, c.from.ensures, c.len-2.ensures)) (ap (λ (r : Reading). r.most) c.self.view_is)

pub returns-clause-further : goal.returns-clause-further
returns-clause-further g c =
    let segment : Contents = c.in-Some.segment in
    let is = found (g.R.Read.remaining c.args.feed.now.device) (g.R.Read.remaining c.read_segment.new.feed.device) c.deref.result.now c.self.inside.size (c.self.inside.most - c.self.inside.given)
    _ segment c.in-Some.is (c.in_ok-segment.ensures {u = tt}).segment in
    let long = segment_long c.deref.result.now is.bytes c.bytes.result.now segment c.bytes.ensures.split is.split in
    let given = ap (λ (r : Reading). r.given) (sym c.self.view_is) in
    (omega (arith, long, is.some, given, c.len.ensures, ap length c.deref.ensures.value), omega (arith, long, is.within, c.self.invariant.within, c.len.ensures, ap length c.deref.ensures.value))

pub returns-in_err-segment-clause-took : goal.returns-in_err-segment-clause-took
returns-in_err-segment-clause-took g c =
    let left = g.R.Read.remaining in
    subst (λ (n : ℕ). GaveUpTo (left c.args.feed.now.device) (left c.read_segment.new.feed.device) (n + 1)) (ap (λ (r : Reading). r.most - r.given) c.self.view_is) c.read_segment.ensures.taken

pub returns-in_err-segment-clause-took_more : goal.returns-in_err-segment-clause-took_more
returns-in_err-segment-clause-took_more g c = λ too_many.
    let left = g.R.Read.remaining in
    let same = err_from_is_err_and c.from_residual.result c.from_residual.ensures.1 in
    let told = rw same.1 at too_many in
    let is : same.0 ≡ TooManyBytes = cc in
    subst (GaveMore (left c.args.feed.now.device) (left c.read_segment.new.feed.device)) (ap (λ (r : Reading). r.most - r.given) c.self.view_is)
    ((c.in_err-segment.ensures {u = tt}).too_many_bytes (ap Err (sym same.2 ∙ is)))

pub returns-in_err-carried-clause-took : goal.returns-in_err-carried-clause-took
returns-in_err-carried-clause-took g c =
    let left = g.R.Read.remaining in
    subst (λ (n : ℕ). GaveUpTo (left c.args.feed.now.device) (left c.read_segment.new.feed.device) (n + 1)) (ap (λ (r : Reading). r.most - r.given) c.self.view_is) c.read_segment.ensures.taken

pub returns-clause-took : goal.returns-clause-took
returns-clause-took g c =
    let left = g.R.Read.remaining in
    subst (λ (n : ℕ). GaveUpTo (left c.args.feed.now.device) (left c.read_segment.new.feed.device) (n + 1)) (ap (λ (r : Reading). r.most - r.given) c.self.view_is) c.read_segment.ensures.taken

pub returns-clause-segment : goal.returns-clause-segment
returns-clause-segment g c =
    let now = g.R.Read.remaining c.args.feed.now.device in
    let next = g.R.Read.remaining c.read_segment.new.feed.device in
    let segment : Contents = c.in-Some.segment in
    let inside = c.self.inside in
    let is = found now next c.deref.result.now inside.size (inside.most - inside.given) _ segment c.in-Some.is (c.in_ok-segment.ensures {u = tt}).segment in
    subst (λ (r : Reading). IsSegment now next r.carried r.size (r.most - r.given) segment) c.self.view_is
    (subst (λ (carried : List ℕ). IsSegment now next carried inside.size (inside.most - inside.given) segment) c.deref.ensures.value is)
