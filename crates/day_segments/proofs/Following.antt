-- One segment of a file after another.
use Rattle.std.proofs.Common.{◌≡◌, ℕ, ◌+◌, ◌-◌, ◌≤◌, Bool, true, false, List, [], ◌∷◌, ◌++◌, length, refl, sym, ap, subst, ◌∙◌, arith}
use Rattle.std.proofs.KnownBytes.{Consumes-nil, Consumes-trans}
use Rattle.std.proofs.lemmas.List.{append_assoc, append-nil, length-append}
use Rattle.std.proofs.lemmas.Bool.{true≢false}
use Rattle.std.proofs.lemmas.Grind.{flat_map-append}
use Rattle.std.proofs.lemmas.List.Elements.{All-append, All-nil}
use Rattle.std.specs.Prelude.{Option}
use Rattle.std.specs.Io.KnownBytes.{Consumes}
use Rattle.std.specs.List.{All, flat_map}
use Rattle.binaryfile.specs.Devices.{GaveAll, GaveMore, GaveUpTo}
use Rattle.byte_strings.specs.Bytes.{AreBytes, IsByte}
use Rattle.binaryfile.specs.Entries.{Contents, IsPayload, Splits, entry, marker}
use Rattle.binaryfile.specs.Scanned.{contents_of}
use Rattle.binaryfile.proofs.Splitting.{contents_splits, length_payloads, splits_contents}
use Rattle.day_segments.proofs.Carried.{after}
use Rattle.day_segments.specs.Segments.{IsSegment, carry_after, carry_by}
use Rattle.day_segments.specs.Reading.{IsReadTo, followed_by, nothing_read}

abbrev contents : List (List ℕ) → Bool → List ℕ → Contents
contents payloads marked tail = record { payloads = payloads; marked = marked; tail = tail }

-- before the first segment
pub reads_first : (start : Option (List ℕ)) → IsReadTo start start nothing_read [] 0
reads_first start = record {
  bytes = [];
  gave = Consumes-nil start;
  are = All-nil IsByte;
  split = record { whole = refl; each = All-nil IsPayload; partial = λ _. tt };
  carry_is = refl;
  given_is = refl;
}

-- a file that has come to no marker goes on
goes_on : (bytes given tail : List ℕ) (payloads : List (List ℕ)) (next : Contents) → Splits bytes (contents payloads false tail) → Splits (tail ++ given) next
    → Splits (bytes ++ given) (followed_by (contents payloads false tail) next)
goes_on bytes given tail payloads next before after =
    let rest = marker next.marked ++ next.tail in
    record {
      whole = ap (λ (front : List ℕ). front ++ given) before.whole ∙ append_assoc (flat_map entry payloads) tail given ∙ ap (λ (back : List ℕ). flat_map entry payloads ++ back) after.whole
          ∙ sym (append_assoc (flat_map entry payloads) (flat_map entry next.payloads) rest) ∙ ap (λ (front : List ℕ). front ++ rest) (sym (flat_map-append entry payloads next.payloads));
      each = All-append IsPayload payloads next.payloads before.each after.each;
      partial = after.partial;
    }

-- after an end marker there are no entries
pub after_marker : (given : List ℕ) (next : Contents) → Splits (0 ∷ 0 ∷ given) next → next ≡ contents [] true given
after_marker given next split = splits_contents (0 ∷ 0 ∷ given) next split

-- a file that has come to a marker stays as it is, but for its tail
stays : (bytes given tail : List ℕ) (payloads : List (List ℕ)) (next : Contents) → Splits bytes (contents payloads true tail) → next ≡ contents [] true given
    → Splits (bytes ++ given) (followed_by (contents payloads true tail) next)
stays bytes given tail payloads next before is =
    let same : payloads ≡ payloads ++ [] = sym (append-nil payloads) in
    subst (λ (next : Contents). Splits (bytes ++ given) (followed_by (contents payloads true tail) next)) (sym is) (record {
      whole = ap (λ (front : List ℕ). front ++ given) before.whole ∙ append_assoc (flat_map entry payloads) (marker true ++ tail) given
          ∙ ap (λ (all : List (List ℕ)). flat_map entry all ++ (marker true ++ (tail ++ given))) same;
      each = subst (All IsPayload) same before.each;
      partial = λ unmarked. absurd (true≢false unmarked);
    })

-- and its marker is carried over as before
carry_stays : (given tail : List ℕ) (payloads : List (List ℕ)) (next : Contents) → next ≡ contents [] true given
    → carry_after next ≡ carry_after (followed_by (contents payloads true tail) next)
carry_stays given tail payloads next is =
    subst (λ (next : Contents). carry_after next ≡ carry_after (followed_by (contents payloads true tail) next)) (sym is) refl

-- every file that begins with these bytes has their contents, followed by those of what is carried over and of the rest
pub record GoesOn (rest : List ℕ) (before whole : Contents) : Type 0 where
  pub next : Contents
  pub split : Splits (carry_after before ++ rest) next
  pub is : whole ≡ followed_by before next

goes_on_by : (bytes rest tail : List ℕ) (payloads : List (List ℕ)) (marked : Bool) (whole : Contents) → AreBytes (bytes ++ rest) → Splits bytes (contents payloads marked tail) → Splits (bytes ++ rest) whole
    → GoesOn rest (contents payloads marked tail) whole
goes_on_by bytes rest tail payloads true whole are before split =
    let next = contents [] true rest in
    let all = stays bytes rest tail payloads next before refl in
    record {
      next = next;
      split = record { whole = refl; each = All-nil IsPayload; partial = λ unmarked. absurd (true≢false unmarked) };
      is = splits_contents (bytes ++ rest) whole split ∙ sym (splits_contents (bytes ++ rest) (followed_by (contents payloads true tail) next) all);
    }
goes_on_by bytes rest tail payloads false whole are before split =
    let front : List ℕ = flat_map entry payloads in
    let joined = ap (λ (all : List ℕ). all ++ rest) before.whole ∙ append_assoc front tail rest in
    let next = contents_of (tail ++ rest) in
    let here = contents_splits (tail ++ rest) (after front (tail ++ rest) (subst AreBytes joined are)) in
    let all = goes_on bytes rest tail payloads next before here in
    record {
      next = next;
      split = here;
      is = splits_contents (bytes ++ rest) whole split ∙ sym (splits_contents (bytes ++ rest) (followed_by (contents payloads false tail) next) all);
    }

pub every_file_goes_on : (bytes rest : List ℕ) (before whole : Contents) → AreBytes (bytes ++ rest) → Splits bytes before → Splits (bytes ++ rest) whole → GoesOn rest before whole
every_file_goes_on bytes rest before whole = goes_on_by bytes rest before.tail before.payloads before.marked whole

module _ (start now next : Option (List ℕ)) (carried : List ℕ) (size most : ℕ) (c : Contents) (segment : IsSegment now next carried size most c) where
  follows : (payloads : List (List ℕ)) (given : ℕ) (bytes tail : List ℕ) (marked : Bool) → Consumes start now bytes → AreBytes bytes → Splits bytes (contents payloads marked tail) → carried ≡ carry_by marked tail → given ≡ length bytes
      → IsReadTo start next (followed_by (contents payloads marked tail) c) (carry_after c) (given + length segment.bytes)
  follows payloads given bytes tail true gave are split is long =
      let marked = after_marker segment.bytes c (subst (λ (front : List ℕ). Splits (front ++ segment.bytes) c) is segment.split) in
      record {
        bytes = bytes ++ segment.bytes;
        gave = Consumes-trans start now next bytes segment.bytes gave segment.gave;
        are = All-append IsByte bytes segment.bytes are segment.are;
        split = stays bytes segment.bytes tail payloads c split marked;
        carry_is = carry_stays segment.bytes tail payloads c marked;
        given_is = omega (arith, long, length-append bytes segment.bytes);
      }
  follows payloads given bytes tail false gave are split is long = record {
    bytes = bytes ++ segment.bytes;
    gave = Consumes-trans start now next bytes segment.bytes gave segment.gave;
    are = All-append IsByte bytes segment.bytes are segment.are;
    split = goes_on bytes segment.bytes tail payloads c split (subst (λ (front : List ℕ). Splits (front ++ segment.bytes) c) is segment.split);
    carry_is = refl;
    given_is = omega (arith, long, length-append bytes segment.bytes);
  }

  -- a file that was read so far is read further by a segment
  pub reads_on : (before : Contents) (given : ℕ) → IsReadTo start now before carried given → IsReadTo start next (followed_by before c) (carry_after c) (given + length segment.bytes)
  reads_on before given read = follows before.payloads given read.bytes before.tail before.marked read.gave read.are read.split read.carry_is read.given_is

module _ (start now : Option (List ℕ)) (before : Contents) (carried : List ℕ) (given : ℕ) (read : IsReadTo start now before carried given) where
  -- where nothing more comes, all was read
  pub all_read : (next : Option (List ℕ)) → GaveAll now next [] → GaveAll start next read.bytes
  all_read next end = record {
    gave = subst (Consumes start next) (append-nil read.bytes) (Consumes-trans start now next read.bytes [] read.gave end.gave);
    ended = end.ended;
  }

  pub parts_long : given ≡ length (flat_map entry before.payloads) + length (marker before.marked) + length before.tail
  parts_long = omega (arith, read.given_is, ap length read.split.whole, length-append (flat_map entry before.payloads) (marker before.marked ++ before.tail), length-append (marker before.marked) before.tail)

  -- no more payloads than bytes were read
  pub few_read : length before.payloads ≤ given
  few_read = omega (arith, length_payloads before.payloads, parts_long)

  -- what the reader gave, where it may be no more than `most` bytes
  module _ (most : ℕ) (within : given ≤ most) where
    pub gives_so_far : GaveUpTo start now (most + 1)
    gives_so_far = record { bytes = read.bytes; gave = read.gave; within = omega (arith, read.given_is, within) }

    pub gives_up_to : (next : Option (List ℕ)) → GaveUpTo now next (most - given + 1) → GaveUpTo start next (most + 1)
    gives_up_to next more = record {
      bytes = read.bytes ++ more.bytes;
      gave = Consumes-trans start now next read.bytes more.bytes read.gave more.gave;
      within = omega (arith, length-append read.bytes more.bytes, read.given_is, within, more.within);
    }

    pub gives_more : (next : Option (List ℕ)) → GaveMore now next (most - given) → GaveMore start next most
    gives_more next more = record {
      bytes = read.bytes ++ more.bytes;
      gave = Consumes-trans start now next read.bytes more.bytes read.gave more.gave;
      more = omega (arith, length-append read.bytes more.bytes, read.given_is, within, more.more);
    }
