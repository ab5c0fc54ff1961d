-- Where the entries lie.
use Rattle.std.proofs.Common.{inl, inr, ◌≡◌, ℕ, zero, suc, ◌+◌, ◌-◌, ◌*◌, ◌%◌, ◌<◌, ◌≤◌, List, [], ◌∷◌, ◌++◌, length, take, drop, get_or, refl, sym, ◌∙◌, ap, subst, arith}
use Rattle.std.proofs.lemmas.List.{append_assoc, length-append, drop_at, drop_more, drop_all, take_more, length-drop, append-nil, take_rest, take-append-drop, length-take-le, drop-drop, length_push, get_or_append_left, get_or_push}
use Rattle.std.proofs.lemmas.Bool.{cases_lt, some_since}
use Rattle.std.proofs.lemmas.List.Concat.{flat_map-append}
use Rattle.std.proofs.lemmas.List.Elements.{All-drop}
use Rattle.std.specs.Prelude.{Option, IsSome, MatchOption}
use Rattle.std.specs.List.{flat_map}
use Rattle.std.specs.Int.{w16, from_be_bytes}
use Rattle.binaryfile.specs.Entries.{IsPayload, entry, marker, Contents, Splits}
use Rattle.byte_strings.specs.Bytes.{AreBytes}
use Rattle.binaryfile.specs.Scanned.{scanned, contents_of}
use Rattle.binaryfile.specs.Index.{offset, payloads_of, IsIndex}
use Rattle.binaryfile.specs.declared.TheConstants.{STRIDE}
use Rattle.binaryfile.proofs.Splitting.{contents_again, contents_splits, scanned_entry}

-- the payload that two bytes of length say
pub payload_first : (bytes : List ℕ) (n : ℕ) → 2 ≤ length bytes → n ≡ from_be_bytes w16 (take 2 bytes) → 0 < n → n ≤ length (drop 2 bytes)
    → (rest : List (List ℕ)) × (payloads_of bytes ≡ take n (drop 2 bytes) ∷ rest)
payload_first [] n long is positive fits = absurd (omega arith)
payload_first (x ∷ []) n long is positive fits = absurd (omega arith)
payload_first (high ∷ low ∷ rest) n long is positive fits =
    let p : List ℕ = take n rest in
    let more : List ℕ = drop n rest in
    let whole : p ++ more ≡ rest = take-append-drop n rest in
    let p-len : length p ≡ n = length-take-le n rest fits in
    let says : 256 * high + low ≡ length p = omega arith in
    let fuel : ℕ = suc (suc (length rest)) in (
      (scanned fuel more).payloads,
      ap (λ (x : List ℕ). (scanned (suc fuel) (high ∷ low ∷ x)).payloads) (sym whole) ∙ ap (λ (x : Contents). x.payloads) (scanned_entry fuel high low p more says (omega arith)),
    )

-- the entries from the n-th on lie where it begins
drop_entries : (n : ℕ) (ps : List (List ℕ)) (more : List ℕ) → drop (offset ps n) (flat_map entry ps ++ more) ≡ flat_map entry (drop n ps) ++ more
drop_entries zero ps more = refl
drop_entries (suc n) [] more = refl
drop_entries (suc n) (p ∷ ps) more =
    ap (λ (k : ℕ). drop k ((entry p ++ flat_map entry ps) ++ more)) (length-append (entry p) (flat_map entry (take n ps)))
    ∙ ap (λ (x : List ℕ). drop (length (entry p) + offset ps n) x) (append_assoc (entry p) (flat_map entry ps) more)
    ∙ sym (drop-drop (offset ps n) (length (entry p)) (entry p ++ (flat_map entry ps ++ more)))
    ∙ ap (λ (x : List ℕ). drop (offset ps n) x) (drop_at (entry p) (flat_map entry ps ++ more) (length (entry p)) refl)
    ∙ drop_entries n ps more

-- what stands at an offset is the rest of the entries
pub contents_at : (bytes : List ℕ) (n : ℕ) → AreBytes bytes
    → contents_of (drop (offset (payloads_of bytes) n) bytes) ≡ record { payloads = drop n (payloads_of bytes); marked = (contents_of bytes).marked; tail = (contents_of bytes).tail }
contents_at bytes n are =
    let c : Contents = contents_of bytes in
    let s : Splits bytes c = contents_splits bytes are in
    ap (λ (x : List ℕ). contents_of (drop (offset c.payloads n) x)) s.whole
    ∙ ap contents_of (drop_entries n c.payloads (marker c.marked ++ c.tail))
    ∙ contents_again (record { payloads = drop n c.payloads; marked = c.marked; tail = c.tail }) (All-drop IsPayload n c.payloads s.each) s.partial

pub payloads_at : (bytes : List ℕ) (n : ℕ) → AreBytes bytes → payloads_of (drop (offset (payloads_of bytes) n) bytes) ≡ drop n (payloads_of bytes)
payloads_at bytes n are = ap (λ (x : Contents). x.payloads) (contents_at bytes n are)

-- one entry on
pub record Advances (ps : List (List ℕ)) (n : ℕ) (p : List ℕ) : Type 0 where
  pub within : n < length ps
  pub is : p ≡ get_or ps n []
  pub next : offset ps (n + 1) ≡ offset ps n + (2 + length p)

pub advances : (ps : List (List ℕ)) (n : ℕ) (p : List ℕ) (rest : List (List ℕ)) → drop n ps ≡ p ∷ rest → Advances ps n p
advances ps n p rest e =
    let within : n < length ps = omega (arith, ap length e, length-drop n ps) in
    let is : p ≡ get_or ps n [] = ap (λ (xs : List (List ℕ)). get_or xs 0 []) (sym e ∙ drop_more ps n [] within) in
    let grown : take (n + 1) ps ≡ take n ps ++ (p ∷ []) = take_more ps n [] within ∙ ap (λ (x : List ℕ). take n ps ++ (x ∷ [])) (sym is) in
    let next : offset ps (n + 1) ≡ offset ps n + length (entry p) =
    ap (λ (xs : List (List ℕ)). length (flat_map entry xs)) grown ∙ ap length (flat_map-append entry (take n ps) (p ∷ [])) ∙ length-append (flat_map entry (take n ps)) (entry p ++ [])
    ∙ ap (λ (x : List ℕ). offset ps n + length x) (append-nil (entry p)) in
    record { within = within; is = is; next = omega arith }

-- the first payload, and those of the bytes after its entry
pub payloads_split : (bytes : List ℕ) (n : ℕ) → AreBytes bytes → 2 ≤ length bytes → n ≡ from_be_bytes w16 (take 2 bytes) → 0 < n → n ≤ length (drop 2 bytes)
    → payloads_of bytes ≡ take n (drop 2 bytes) ∷ payloads_of (drop n (drop 2 bytes))
payloads_split bytes n are long says positive fits =
    let p : List ℕ = take n (drop 2 bytes) in
    let first = payload_first bytes n long says positive fits in
    let a : Advances (payloads_of bytes) 0 p = advances (payloads_of bytes) 0 p first.0 first.1 in
    let p-len : length p ≡ n = length-take-le n (drop 2 bytes) fits in
    let next : offset (payloads_of bytes) 1 ≡ 2 + n = omega (arith, a.next, p-len) in
    let more : payloads_of (drop n (drop 2 bytes)) ≡ first.0 =
    ap payloads_of (drop-drop n 2 bytes) ∙ ap (λ (k : ℕ). payloads_of (drop k bytes)) (sym next) ∙ payloads_at bytes 1 are ∙ ap (drop 1) first.1 in
    first.1 ∙ ap (λ (ps : List (List ℕ)). p ∷ ps) (sym more)

pub ends : (ps : List (List ℕ)) (n : ℕ) → n ≤ length ps → drop n ps ≡ [] → n ≡ length ps
ends ps n h e = omega (arith, ap length e, length-drop n ps)

-- an entry has two bytes at least
two_each : (payloads : List (List ℕ)) → 2 * length payloads ≤ length (flat_map entry payloads)
two_each [] = omega arith
two_each (p ∷ payloads) = omega (arith, two_each payloads, length-append (entry p) (flat_map entry payloads))

pub few_entries : (bytes : List ℕ) → AreBytes bytes → 2 * length (payloads_of bytes) ≤ length bytes
few_entries bytes are =
    let c : Contents = contents_of bytes in
    let s : Splits bytes c = contents_splits bytes are in
    omega (arith, two_each c.payloads, ap length s.whole, length-append (flat_map entry c.payloads) (marker c.marked ++ c.tail))

-- the entries reach no further than the bytes
pub offset_within : (bytes : List ℕ) (n : ℕ) → AreBytes bytes → offset (payloads_of bytes) n ≤ length bytes
offset_within bytes n are =
    let c : Contents = contents_of bytes in
    let s : Splits bytes c = contents_splits bytes are in
    let parts : length (flat_map entry (take n c.payloads)) + length (flat_map entry (drop n c.payloads)) ≡ length (flat_map entry c.payloads) =
    sym (length-append (flat_map entry (take n c.payloads)) (flat_map entry (drop n c.payloads))) ∙ ap length (sym (flat_map-append entry (take n c.payloads) (drop n c.payloads)))
    ∙ ap (λ (xs : List (List ℕ)). length (flat_map entry xs)) (take-append-drop n c.payloads) in
    omega (arith, ap length s.whole, length-append (flat_map entry c.payloads) (marker c.marked ++ c.tail))

-- what is read at a place
pub read_at : (bytes : List ℕ) (at n : ℕ) → AreBytes bytes → at ≡ offset (payloads_of bytes) n
    → payloads_of (take (length bytes - at) (drop at bytes)) ≡ drop n (payloads_of bytes)
read_at bytes at n are is = ap payloads_of (take_rest bytes at) ∙ ap (λ (k : ℕ). payloads_of (drop k bytes)) is ∙ payloads_at bytes n are

-- a loop's step over one entry
pub record Steps (bytes : List ℕ) (at n : ℕ) (p : List ℕ) : Type 0 where
  pub more : n < length (payloads_of bytes)
  pub is : p ≡ get_or (payloads_of bytes) n []
  pub place : at + (2 + length p) ≡ offset (payloads_of bytes) (n + 1)
  pub within : at + (2 + length p) ≤ length bytes

pub steps : (bytes : List ℕ) (at n : ℕ) (p : List ℕ) (rest : List (List ℕ)) → AreBytes bytes → at ≡ offset (payloads_of bytes) n
    → payloads_of (take (length bytes - at) (drop at bytes)) ≡ p ∷ rest → Steps bytes at n p
steps bytes at n p rest are is first =
    let a : Advances (payloads_of bytes) n p = advances (payloads_of bytes) n p rest (sym (read_at bytes at n are is) ∙ first) in
    let place : at + (2 + length p) ≡ offset (payloads_of bytes) (n + 1) = omega (arith, a.next) in
    record { more = a.within; is = a.is; place = place; within = omega (arith, offset_within bytes (n + 1) are) }

-- no entry stands at the end of them
pub stops : (bytes : List ℕ) (at n : ℕ) → AreBytes bytes → at ≡ offset (payloads_of bytes) n → n ≤ length (payloads_of bytes)
    → payloads_of (take (length bytes - at) (drop at bytes)) ≡ [] → n ≡ length (payloads_of bytes)
stops bytes at n are is within none = ends (payloads_of bytes) n within (sym (read_at bytes at n are is) ∙ none)

-- where the entries don't end, a first one is found
pub first_is_found : (bytes : List ℕ) (at n : ℕ) → AreBytes bytes → at ≡ offset (payloads_of bytes) n → n < length (payloads_of bytes)
    → {T : Type 0} (first : Option T) (One : T → Type 0) → MatchOption first (payloads_of (take (length bytes - at) (drop at bytes)) ≡ []) One → IsSome first
first_is_found bytes at n are is within first One found =
    some_since first _ One found (λ none. omega (arith, within, stops bytes at n are is (omega (arith, within)) none))

-- the index that has grown by one entry, or stays
pub record Indexed (bytes starts : List ℕ) (n : ℕ) : Type 0 where
  pub enough : n ≤ length starts * STRIDE
  pub few : length starts * STRIDE < n + STRIDE
  pub found : (k : ℕ) → k < length starts → get_or starts k 0 ≡ offset (payloads_of bytes) (k * STRIDE)

pub indexed_push : (bytes starts : List ℕ) (n at : ℕ) → n % STRIDE ≡ 0 → at ≡ offset (payloads_of bytes) n → Indexed bytes starts n → Indexed bytes (starts ++ at ∷ []) (n + 1)
indexed_push bytes starts n at even is h =
    let len : length (starts ++ at ∷ []) ≡ length starts + 1 = length_push starts at in
    let here : n ≡ length starts * STRIDE = omega (arith, h.enough, h.few) in
    record {
      enough = omega (arith, h.enough);
      few = omega (arith, h.few);
      found = λ k below. elim (cases_lt k (length starts)) [
        | inl old ↦ get_or_append_left starts (at ∷ []) 0 k old ∙ h.found k old
        | inr new ↦
            let last : length starts ≡ k = omega arith in
            get_or_push starts at 0 k last ∙ is ∙ ap (offset (payloads_of bytes)) (here ∙ ap (λ (x : ℕ). x * STRIDE) last)
      ];
    }

pub indexed_stay : (bytes starts : List ℕ) (n : ℕ) → (n % STRIDE ≡ 0 → ⊥) → Indexed bytes starts n → Indexed bytes starts (n + 1)
indexed_stay bytes starts n odd h =
    let other : n ≡ length starts * STRIDE → ⊥ = λ e. odd (omega arith) in
    record { enough = omega (arith, h.enough, h.few); few = omega (arith, h.few); found = h.found }

pub indexed_none : (bytes : List ℕ) → Indexed bytes [] 0
indexed_none bytes = record { enough = omega arith; few = omega arith; found = λ k below. absurd (omega arith) }

-- what follows the entries
pub after_entries : (bytes : List ℕ) (end : ℕ) → AreBytes bytes → end ≡ offset (payloads_of bytes) (length (payloads_of bytes))
    → (drop end bytes ≡ marker (contents_of bytes).marked ++ (contents_of bytes).tail)
    × (contents_of (drop end bytes) ≡ record { payloads = []; marked = (contents_of bytes).marked; tail = (contents_of bytes).tail })
after_entries bytes end are is =
    let c : Contents = contents_of bytes in
    let n : ℕ = length c.payloads in
    let none : drop n c.payloads ≡ [] = drop_all n c.payloads (omega arith) in
    let at : drop (offset c.payloads n) bytes ≡ marker c.marked ++ c.tail =
    ap (drop (offset c.payloads n)) (contents_splits bytes are).whole ∙ drop_entries n c.payloads (marker c.marked ++ c.tail)
    ∙ ap (λ (ps : List (List ℕ)). flat_map entry ps ++ (marker c.marked ++ c.tail)) none in (
      ap (λ (k : ℕ). drop k bytes) is ∙ at,
      ap (λ (k : ℕ). contents_of (drop k bytes)) is ∙ contents_at bytes n are ∙ ap (λ (ps : List (List ℕ)). record { payloads = ps; marked = c.marked; tail = c.tail }) none,
    )

pub same_index : (bytes items starts places : List ℕ) → bytes ≡ items → starts ≡ places → IsIndex places items → IsIndex starts bytes
same_index bytes items starts places b s h = subst (λ (x : List ℕ). IsIndex x bytes) (sym s) (subst (λ (x : List ℕ). IsIndex places x) (sym b) h)

-- the bytes after the marker, or after the entries where there is none
pub tail_at : (bytes : List ℕ) (end n : ℕ) → AreBytes bytes → n ≡ length (payloads_of bytes) → end ≡ offset (payloads_of bytes) n
    → (end + length (marker (contents_of bytes).marked) ≤ length bytes) × (drop (end + length (marker (contents_of bytes).marked)) bytes ≡ (contents_of bytes).tail)
tail_at bytes end n are all is =
    let c : Contents = contents_of bytes in
    let rest : drop end bytes ≡ marker c.marked ++ c.tail = (after_entries bytes end are (is ∙ ap (offset c.payloads) all)).0 in
    let within : end ≤ length bytes = rw is (offset_within bytes n are) in (
      omega (arith, ap length rest, length-append (marker c.marked) c.tail, length-drop end bytes),
      sym (drop-drop (length (marker c.marked)) end bytes) ∙ ap (drop (length (marker c.marked))) rest ∙ drop_at (marker c.marked) c.tail (length (marker c.marked)) refl,
    )
