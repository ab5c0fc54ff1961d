-- The numbers that a test keeps, split at a number.
use Rattle.std.proofs.Common.{◌≡◌, ℕ, zero, suc, ◌+◌, ◌-◌, ◌<◌, ◌≤◌, List, ◌∷◌, ◌++◌, length, Bool, true, false, get_or, filter, take, refl, sym, ap, ◌∙◌, arith, inl, inr, length-append, leb, leb-true}
use Rattle.std.specs.List.{range_with_len}
use Rattle.std.specs.List.Sorted.{IsPartitionedBy, IsPartitionPoint}
use Rattle.std.proofs.lemmas.Bool.{cases_lt, le-leb, leb-false}
use Rattle.std.proofs.lemmas.List.{get_or_append_left, get_or-append_right}
use Rattle.std.proofs.lemmas.List.Elements.{filter-append}
use Rattle.std.proofs.Math.Seq.{take-append_seam}
use Rattle.day_core.proofs.FilteredRanges.{kept_within}

range_added : (a n m : ℕ) → range_with_len a (n + m) ≡ range_with_len a n ++ range_with_len (a + n) m
range_added a zero m =
    let e : a + 0 ≡ a = omega arith in
    let z : 0 + m ≡ m = omega arith in
    rw (e, z) refl
range_added a (suc n) m =
    let e : a + suc n ≡ a + 1 + n = omega arith in
    let z : suc n + m ≡ suc (n + m) = omega arith in
    rw (e, z) (ap (λ (l : List ℕ). a ∷ l) (range_added (a + 1) n m))

module _ (p : ℕ → Bool) where
  abbrev kept : ℕ → List ℕ
  kept n = filter p (range_with_len 1 n)

  module _ (n last : ℕ) (le : n ≤ last) where
    abbrev later : List ℕ
    later = filter p (range_with_len (1 + n) (last - n))

    -- those up to n come first, and then those above it
    pub split : kept last ≡ kept n ++ later
    split =
        let e : n + (last - n) ≡ last = omega arith in
        ap kept (sym e) ∙ ap (filter p) (range_added 1 n (last - n)) ∙ filter-append p (range_with_len 1 n) (range_with_len (1 + n) (last - n))

    long : length (kept last) ≡ length (kept n) + length later
    long = ap length split ∙ length-append (kept n) later

    pub below : (k d : ℕ) → k < length (kept n) → get_or (kept last) k d ≤ n
    below k d lt =
        let inside = kept_within p 1 n k d lt in
        rw (split, get_or_append_left (kept n) later d k lt) (omega (arith, inside))

    above : (k d : ℕ) → length (kept n) ≤ k → k < length (kept last) → n < get_or (kept last) k d
    above k d ge lt =
        let inside = kept_within p (1 + n) (last - n) (k - length (kept n)) d (omega (arith, long)) in
        rw (split, get_or-append_right (kept n) later (length (kept n)) k d refl ge) (omega (arith, inside))

    pub taken : take (length (kept n)) (kept last) ≡ kept n
    taken = rw split (take-append_seam (kept n) later)

    -- so a search for those up to n
    pub parted : IsPartitionedBy (λ m. leb m n) (kept last)
    parted i j d before lt test = elim (cases_lt j (length (kept n))) [
      | inl first ↦ le-leb _ _ (below i d (omega arith))
      | inr then ↦ absurd (omega (arith, leb-true _ _ test, above j d then lt))
    ]

    -- finds how many they are
    pub found : (r : ℕ) → r ≤ length (kept last) → IsPartitionPoint (λ m. leb m n ≡ true) (λ m. leb m n ≡ false) (kept last) r → r ≡ length (kept n)
    found r bound point =
        let until = length (kept n) in
        elim (cases_lt r until) [
          | inl less ↦ absurd (omega (arith, below r 0 less, leb-false _ _ (point.1 r 0 (omega arith) (omega (arith, long)))))
          | inr ge ↦ elim (cases_lt until r) [
            | inl more ↦ absurd (omega (arith, leb-true _ _ (point.0 until 0 (omega arith) more), above until 0 (omega arith) (omega arith)))
            | inr le ↦ omega arith
          ]
        ]
