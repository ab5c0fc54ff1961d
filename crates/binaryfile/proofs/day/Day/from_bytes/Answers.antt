use Rattle.std.proofs.Common.{◌≡◌, ℕ, ◌-◌, ◌^◌, ◌<◌, Err, List, [], length, take, drop, Bool, ap, subst, sym, ◌∙◌, arith}
use Rattle.std.proofs.lemmas.List.{take_rest}
use Rattle.std.proofs.lemmas.Result.{err_from_is_err_and}
use Rattle.byte_strings.specs.Bytes.{AreBytes}
use Rattle.binaryfile.specs.declared.load.LoadFault.TheVariants.{TooManyMessages}
use Rattle.binaryfile.specs.Entries.{Contents}
use Rattle.binaryfile.specs.Loading.{HasMoreMessages}
use Rattle.binaryfile.specs.Scanned.{contents_of}
use Rattle.binaryfile.specs.Index.{payloads_of, offset, IsIndex, IsDay}
use Rattle.binaryfile.proofs.Splitting.{contents_splits, splits_contents}
use Rattle.binaryfile.proofs.Offsets.{after_entries}
use Rattle.binaryfile.proofs.day.Day.from_bytes.Goals as goal

-- where the entries end, none stands
none_after : (bytes : List ℕ) (end n : ℕ) → AreBytes bytes → end ≡ offset (payloads_of bytes) n → n ≡ length (payloads_of bytes) → payloads_of (take (length bytes - end) (drop end bytes)) ≡ []
none_after bytes end n are is all = ap payloads_of (take_rest bytes end) ∙ ap (λ (x : Contents). x.payloads) (after_entries bytes end are (is ∙ ap (offset (payloads_of bytes)) all)).1

-- the marker that stands there is the file's
marker_after : (bytes : List ℕ) (end n : ℕ) → AreBytes bytes → end ≡ offset (payloads_of bytes) n → n ≡ length (payloads_of bytes) → (contents_of (take (length bytes - end) (drop end bytes))).marked ≡ (contents_of bytes).marked
marker_after bytes end n are is all = ap (λ (x : List ℕ). (contents_of x).marked) (take_rest bytes end) ∙ ap (λ (x : Contents). x.marked) (after_entries bytes end are (is ∙ ap (offset (payloads_of bytes)) all)).1

is_day : (bytes items starts : List ℕ) (n end : ℕ) (marked : Bool) → bytes ≡ items → AreBytes bytes → n ≡ length (payloads_of bytes) → n < 2 ^ 32 → end ≡ offset (payloads_of bytes) n
    → marked ≡ (contents_of (take (length bytes - end) (drop end bytes))).marked → IsIndex starts bytes → IsDay items starts n end marked
is_day bytes items starts n end marked same are all few is mark places =
    subst (λ (x : List ℕ). IsDay x starts n end marked) same
    (record { are = are; count_is = all; few = few; end_is = is; marked_is = mark ∙ marker_after bytes end n are is all; index = places })

more_there : (bytes : List ℕ) (messages : ℕ) → HasMoreMessages bytes messages → messages < length (payloads_of bytes)
more_there bytes messages more = subst (λ (contents : Contents). messages < length contents.payloads) (splits_contents bytes more.contents more.split) more.more

pub begins_with_marker-marked-requires : goal.begins_with_marker-marked-requires
begins_with_marker-marked-requires g c =
    let e = c.in_ok-count.ensures in
    none_after _ _ _ c.entries_within.ensures.are e.end e.count

pub returns-in_err-count-clause-too_many_messages : goal.returns-in_err-count-clause-too_many_messages
returns-in_err-count-clause-too_many_messages g c = λ too_many.
    let bytes = c.args.bytes.items in
    let are : AreBytes bytes = subst AreBytes c.as_slice-whole.ensures.value c.entries_within.ensures.are in
    let same = err_from_is_err_and c.from_residual.result c.from_residual.ensures.1 in
    let told = rw same.1 at too_many in
    let is : same.0 ≡ TooManyMessages = cc in
    let seen : length (payloads_of c.as_slice-whole.result.now) ≡ length (payloads_of bytes) = ap (λ (x : List ℕ). length (payloads_of x)) c.as_slice-whole.ensures.value in
    record {
      are = are;
      contents = contents_of bytes;
      split = contents_splits bytes are;
      more = omega (arith, seen, c.in_err-count.ensures.too_many (ap Err (sym same.2 ∙ is)));
    }

pub invariant_of-result : goal.invariant_of-result
invariant_of-result g c =
    let e = c.in_ok-count.ensures in
    is_day _ _ _ _ _ _ c.as_slice-whole.ensures.value c.entries_within.ensures.are e.count (omega arith) e.end c.begins_with_marker-marked.ensures e.index

pub returns-clause-split : goal.returns-clause-split
returns-clause-split g c = contents_splits c.args.bytes.items (subst AreBytes c.as_slice-whole.ensures.value c.entries_within.ensures.are)

pub returns-clause-within : goal.returns-clause-within
returns-clause-within g c =
    let e = c.in_ok-count.ensures in
    let seen : length (payloads_of c.as_slice-whole.result.now) ≡ length (payloads_of c.args.bytes.items) = ap (λ (x : List ℕ). length (payloads_of x)) c.as_slice-whole.ensures.value in
    omega (arith, seen, e.count, e.limit)

pub returns-in_err-count-clause-judged : goal.returns-in_err-count-clause-judged
returns-in_err-count-clause-judged g c = λ more.
    let seen : length (payloads_of c.as_slice-whole.result.now) ≡ length (payloads_of c.args.bytes.items) = ap (λ (x : List ℕ). length (payloads_of x)) c.as_slice-whole.ensures.value in
    let judged = c.entries_within.ensures.judged (omega (arith, seen, more_there _ _ more)) in
    let was = c.in_err-count.was {u = tt} in
    let same = err_from_is_err_and c.from_residual.result c.from_residual.ensures.1 in
    let is : c.in_err-count.field-0.0 ≡ TooManyMessages = cc in
    same.1 ∙ ap Err (same.2 ∙ is)

pub returns-clause-judged : goal.returns-clause-judged
returns-clause-judged g c = λ more.
    let e = c.in_ok-count.ensures in
    let seen : length (payloads_of c.as_slice-whole.result.now) ≡ length (payloads_of c.args.bytes.items) = ap (λ (x : List ℕ). length (payloads_of x)) c.as_slice-whole.ensures.value in
    absurd (omega (arith, seen, e.count, e.limit, more_there _ _ more))
