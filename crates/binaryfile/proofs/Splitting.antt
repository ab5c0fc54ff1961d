-- Every byte string has exactly one splitting.
use Rattle.std.proofs.Common.{inl, inr, ◌≡◌, ℕ, zero, suc, ◌+◌, ◌*◌, ◌/◌, ◌%◌, ◌^◌, ◌<◌, ◌≤◌, Bool, true, false, List, [], ◌∷◌, ◌++◌, length, take, drop, refl, sym, ◌∙◌, ap, subst, arith}
use Rattle.std.proofs.lemmas.List.{append_assoc, length-append, take_at, drop_at, take-append-drop, length-take-le, length-drop}
use Rattle.std.proofs.lemmas.List.Elements.{All-nil, All-cons, All-head, All-tail, All-drop}
use Rattle.std.proofs.lemmas.Bool.{cases_lt, cases_Bool, cond-true, cond-false, eqb-true, eqb-false, ltb-true, ltb-false, ne_eqb, lt-ltb, le-ltb, true≢false}
use Rattle.std.specs.Prelude.{nat_eq, nat_lt}
use Rattle.std.specs.List.{All, flat_map}
use Rattle.std.specs.Int.{w16, to_be_bytes}
use Rattle.binaryfile.specs.Entries.{IsPayload, entry, marker, IsPartial, Contents, bytes_of, Splits, HasOneSplitting}
use Rattle.byte_strings.specs.Bytes.{IsByte, AreBytes}
use Rattle.binaryfile.specs.Scanned.{left_over, with_payload, scanned, contents_of}

-- the two bytes of a length give it back
pub length_again : (n : ℕ) → n < 2 ^ 16 → 256 * (n / 256 % 256) + n % 256 ≡ n
length_again n h = omega arith

-- the length that two bytes say has these two bytes
pub bytes_again : (high low : ℕ) → high < 256 → low < 256 → to_be_bytes w16 (256 * high + low) ≡ high ∷ low ∷ []
bytes_again high low h l =
    let first : (256 * high + low) / 256 % 256 ≡ high = omega arith in
    let second : (256 * high + low) % 256 ≡ low = omega arith in
    ap (λ (x : ℕ). x ∷ ((256 * high + low) % 256) ∷ []) first ∙ ap (λ (x : ℕ). high ∷ x ∷ []) second

-- a whole entry before the rest
pub scanned_entry : (n high low : ℕ) (p rest : List ℕ) → 256 * high + low ≡ length p → 0 < length p
    → scanned (suc n) (high ∷ low ∷ (p ++ rest)) ≡ with_payload p (scanned n rest)
scanned_entry n high low p rest is positive =
    let some : nat_eq (256 * high + low) 0 ≡ false = ne_eqb (256 * high + low) 0 (λ e. omega arith) in
    let fits : nat_lt (length (p ++ rest)) (256 * high + low) ≡ false = le-ltb (length (p ++ rest)) (256 * high + low) (omega (arith, length-append p rest)) in
    cond-false _ _ _ some ∙ cond-false _ _ _ fits
    ∙ ap (λ (x : List ℕ). with_payload x (scanned n (drop (256 * high + low) (p ++ rest)))) (take_at p rest (256 * high + low) (sym is))
    ∙ ap (λ (x : List ℕ). with_payload p (scanned n x)) (drop_at p rest (256 * high + low) (sym is))

-- what is no whole entry
pub scanned_partial : (n : ℕ) (tail : List ℕ) → IsPartial tail → scanned (suc n) tail ≡ left_over tail
scanned_partial n [] h = refl
scanned_partial n (x ∷ []) h = refl
scanned_partial n (high ∷ low ∷ rest) h =
    let some : nat_eq (256 * high + low) 0 ≡ false = ne_eqb (256 * high + low) 0 (λ e. omega arith) in
    cond-false _ _ _ some ∙ cond-true _ _ _ (lt-ltb (length rest) (256 * high + low) h)

scanned_end : (n : ℕ) (marked : Bool) (tail : List ℕ) → (marked ≡ false → IsPartial tail)
    → scanned (suc n) (marker marked ++ tail) ≡ record { payloads = []; marked = marked; tail = tail }
scanned_end n true tail h = refl
scanned_end n false tail h = scanned_partial n tail (h refl)

-- what was joined is found again
pub scanned_again : (n : ℕ) (ps : List (List ℕ)) (marked : Bool) (tail : List ℕ) → length ps < n → All IsPayload ps → (marked ≡ false → IsPartial tail)
    → scanned n (flat_map entry ps ++ (marker marked ++ tail)) ≡ record { payloads = ps; marked = marked; tail = tail }
scanned_again zero ps marked tail h each partial = absurd (omega arith)
scanned_again (suc n) [] marked tail h each partial = scanned_end n marked tail partial
scanned_again (suc n) (p ∷ ps) marked tail h each partial =
    let is : IsPayload p = All-head IsPayload p ps each in
    let more : List ℕ = flat_map entry ps ++ (marker marked ++ tail) in
    let first : ℕ = length p / 256 % 256 in
    let second : ℕ = length p % 256 in
    ap (λ (x : List ℕ). scanned (suc n) (first ∷ second ∷ x)) (append_assoc p (flat_map entry ps) (marker marked ++ tail))
    ∙ scanned_entry n first second p more (length_again (length p) is.1) is.0
    ∙ ap (λ (x : Contents). with_payload p x) (scanned_again n ps marked tail (omega arith) (All-tail IsPayload p ps each) partial)

-- one entry more before the others
pub Splits-entry : (p bytes : List ℕ) (contents : Contents) → IsPayload p → Splits bytes contents → Splits (entry p ++ bytes) (with_payload p contents)
Splits-entry p bytes contents is s = record {
  whole = ap (λ (x : List ℕ). entry p ++ x) s.whole ∙ sym (append_assoc (entry p) (flat_map entry contents.payloads) (marker contents.marked ++ contents.tail));
  each = All-cons IsPayload p contents.payloads is s.each;
  partial = s.partial;
}

pub Splits-left : (bytes : List ℕ) → IsPartial bytes → Splits bytes (left_over bytes)
Splits-left bytes h = record { whole = refl; each = All-nil IsPayload; partial = λ e. h }

-- the scan is a splitting
pub scanned_splits : (n : ℕ) (bytes : List ℕ) → length bytes < n → AreBytes bytes → Splits bytes (scanned n bytes)
scanned_splits zero bytes h are = absurd (omega arith)
scanned_splits (suc n) [] h are = Splits-left [] tt
scanned_splits (suc n) (x ∷ []) h are = Splits-left (x ∷ []) tt
scanned_splits (suc n) (high ∷ low ∷ rest) h are =
    let len : ℕ = 256 * high + low in
    let high-is : high < 256 = All-head IsByte high (low ∷ rest) are in
    let low-is : low < 256 = All-head IsByte low rest (All-tail IsByte high (low ∷ rest) are) in
    let rest-are : AreBytes rest = All-tail IsByte low rest (All-tail IsByte high (low ∷ rest) are) in
    elim (cases_Bool (nat_eq len 0)) [
      | inl zero-is ↦
          let none : len ≡ 0 = eqb-true len 0 zero-is in
          let high-zero : high ≡ 0 = omega arith in
          let low-zero : low ≡ 0 = omega arith in
          subst (Splits (high ∷ low ∷ rest)) (sym (cond-true (nat_eq len 0) _ _ zero-is))
          (record { whole = ap (λ (x : ℕ). x ∷ low ∷ rest) high-zero ∙ ap (λ (x : ℕ). 0 ∷ x ∷ rest) low-zero; each = All-nil IsPayload; partial = λ e. absurd (true≢false e) })
      | inr some ↦ elim (cases_Bool (nat_lt (length rest) len)) [
        | inl short ↦ subst (Splits (high ∷ low ∷ rest)) (sym (scanned_partial n (high ∷ low ∷ rest) (ltb-true (length rest) len short))) (Splits-left (high ∷ low ∷ rest) (ltb-true (length rest) len short))
        | inr whole ↦
            let p : List ℕ = take len rest in
            let more : List ℕ = drop len rest in
            let enough : len ≤ length rest = ltb-false (length rest) len whole in
            let p-len : length p ≡ len = length-take-le len rest enough in
            let positive : 0 < len = elim (cases_lt 0 len) [ inl q ↦ q | inr q ↦ absurd (eqb-false len 0 some (omega arith)) ] in
            let is : IsPayload p = (omega arith, omega arith) in
            let whole-rest : p ++ more ≡ rest = take-append-drop len rest in
            let all : entry p ++ more ≡ high ∷ low ∷ rest =
            ap (λ (x : ℕ). (to_be_bytes w16 x ++ p) ++ more) p-len ∙ ap (λ (x : List ℕ). (x ++ p) ++ more) (bytes_again high low high-is low-is) ∙ ap (λ (x : List ℕ). high ∷ low ∷ x) whole-rest in
            let found : scanned (suc n) (high ∷ low ∷ rest) ≡ with_payload p (scanned n more) =
            ap (λ (x : List ℕ). scanned (suc n) (high ∷ low ∷ x)) (sym whole-rest) ∙ scanned_entry n high low p more (sym p-len) is.0 in
            subst (Splits (high ∷ low ∷ rest)) (sym found) (subst (λ (x : List ℕ). Splits x (with_payload p (scanned n more))) all
            (Splits-entry p more (scanned n more) is (scanned_splits n more (omega (arith, length-drop len rest)) (All-drop IsByte len rest rest-are))))
      ]
    ]

-- as many entries as there are bytes are enough
pub length_payloads : (ps : List (List ℕ)) → length ps ≤ length (flat_map entry ps)
length_payloads [] = omega arith
length_payloads (p ∷ ps) = omega (arith, length_payloads ps, length-append (entry p) (flat_map entry ps))

pub contents_again : (contents : Contents) → All IsPayload contents.payloads → (contents.marked ≡ false → IsPartial contents.tail) → contents_of (bytes_of contents) ≡ contents
contents_again c each partial =
    scanned_again (suc (length (bytes_of c))) c.payloads c.marked c.tail
    (omega (arith, length_payloads c.payloads, length-append (flat_map entry c.payloads) (marker c.marked ++ c.tail))) each partial

pub contents_splits : (bytes : List ℕ) → AreBytes bytes → Splits bytes (contents_of bytes)
contents_splits bytes are = scanned_splits (suc (length bytes)) bytes (omega arith) are

-- a splitting is the one that the scan finds
pub splits_contents : (bytes : List ℕ) (contents : Contents) → Splits bytes contents → contents ≡ contents_of bytes
splits_contents bytes contents s = sym (contents_again contents s.each s.partial) ∙ ap contents_of (sym s.whole)

pub one_splitting : (bytes : List ℕ) → AreBytes bytes → HasOneSplitting bytes
one_splitting bytes are = (contents_of bytes, contents_splits bytes are, λ other s. splits_contents bytes other s)
