-- The next of the numbers that pass a test, and the one before.
use Rattle.std.proofs.Common.{◌≡◌, ℕ, zero, suc, ◌+◌, ◌-◌, ◌<◌, ◌≤◌, List, [], ◌∷◌, ◌++◌, length, Bool, true, false, cond, get_or, filter, refl, sym, ap, subst, ◌∙◌, arith, inl, inr, append-nil, length-append}
use Rattle.std.specs.Prelude.{Option, Some, None, slice_get}
use Rattle.std.specs.List.{range_with_len}
use Rattle.std.proofs.lemmas.Bool.{cases_lt}
use Rattle.std.proofs.lemmas.List.{get_or_append_left, get_or_at}
use Rattle.std.proofs.lemmas.Option.{slice_get-get_or}
use Rattle.day_core.proofs.FilteredRanges.{kept_more}
use Rattle.checkpoints.proofs.Splitting.{split}
use Rattle.debugger.specs.Finding.{IsLatest, IsNext}

slice_get-seam : (xs ys : List ℕ) → slice_get (xs ++ ys) (length xs) ≡ slice_get ys 0
slice_get-seam [] ys = refl
slice_get-seam (x ∷ xs) ys = slice_get-seam xs ys

module _ (p : ℕ → Bool) where
  abbrev kept : ℕ → List ℕ
  kept n = filter p (range_with_len 1 n)

  -- ---- the next one

  first_later : (a n : ℕ) (o : Option ℕ) → p (a + 1) ≡ false → IsNext p (a + 1) (a + 1 + n) o → IsNext p a (a + 1 + n) o
  first_later a n None off next = λ k low high. elim (cases_lt (a + 1) k) [
    | inl lt ↦ next k lt high
    | inr ge ↦ let e : k ≡ a + 1 = omega arith in rw e off
  ]
  first_later a n (Some m) off next = (
    omega (arith, next.0),
    next.1,
    next.2,
    λ k low high. elim (cases_lt (a + 1) k) [
      | inl lt ↦ next.3 k lt high
      | inr ge ↦ let e : k ≡ a + 1 = omega arith in rw e off
    ],
  )

  first_step : (a n : ℕ) (b : Bool) → p (a + 1) ≡ b → IsNext p (a + 1) (a + 1 + n) (slice_get (filter p (range_with_len (a + 1 + 1) n)) 0)
      → IsNext p a (a + 1 + n) (slice_get (cond b ((a + 1) ∷ filter p (range_with_len (a + 1 + 1) n)) (filter p (range_with_len (a + 1 + 1) n))) 0)
  first_step a n true on next = (omega arith, omega arith, on, λ k low high. absurd (omega arith))
  first_step a n false off next = first_later a n _ off next

  -- the first of those above a is the next one
  first_is : (a n : ℕ) → IsNext p a (a + n) (slice_get (filter p (range_with_len (a + 1) n)) 0)
  first_is a zero = λ k low high. absurd (omega arith)
  first_is a (suc n) =
      let e : a + 1 + n ≡ a + suc n = omega arith in
      subst (λ (last : ℕ). IsNext p a last (slice_get (filter p (range_with_len (a + 1) (suc n))) 0)) e (first_step a n (p (a + 1)) refl (first_is (a + 1) n))

  pub next_is : (from last count : ℕ) (numbers : List ℕ) → numbers ≡ kept last → from ≤ last → count ≡ length (kept from) → IsNext p from last (slice_get numbers count)
  next_is from last count numbers are le counted =
      let e : from + (last - from) ≡ last = omega arith in
      let c : 1 + from ≡ from + 1 = omega arith in
      let first = first_is from (last - from) in
      let there = ap (λ (a : ℕ). slice_get (filter p (range_with_len a (last - from))) 0) (sym c) in
      rw (are, counted, split p from last le, slice_get-seam (kept from) (filter p (range_with_len (1 + from) (last - from))))
      (subst (λ (z : ℕ). IsNext p from z (slice_get (filter p (range_with_len (1 + from) (last - from))) 0)) e
      (subst (IsNext p from (from + (last - from))) there first))

  -- ---- the one before

  abbrev IsEnd : ℕ → List ℕ → Type 0
  IsEnd n xs =
      (0 < length xs → (d : ℕ) → IsLatest p n (Some (get_or xs (length xs - 1) d))) × (length xs ≡ 0 → IsLatest p n None)

  end_on : (n : ℕ) (xs : List ℕ) → p (n + 1) ≡ true → IsEnd (n + 1) (xs ++ (n + 1) ∷ [])
  end_on n xs on =
      let long = length-append xs ((n + 1) ∷ []) in (
        λ some d.
            (let e : length (xs ++ (n + 1) ∷ []) - 1 ≡ length xs = omega arith in
            rw (e, get_or_at xs (n + 1) [] d (length xs) refl) (omega arith, omega arith, on, λ k low high. absurd (omega arith))),
        λ none. absurd (omega arith),
      )

  latest_more : (n : ℕ) (o : Option ℕ) → p (n + 1) ≡ false → IsLatest p n o → IsLatest p (n + 1) o
  latest_more n None off end = λ k low high. elim (cases_lt k (n + 1)) [
    | inl lt ↦ end k low (omega arith)
    | inr ge ↦ let e : k ≡ n + 1 = omega arith in rw e off
  ]
  latest_more n (Some m) off end = (
    end.0,
    omega (arith, end.1),
    end.2,
    λ k low high. elim (cases_lt k (n + 1)) [
      | inl lt ↦ end.3 k low (omega arith)
      | inr ge ↦ let e : k ≡ n + 1 = omega arith in rw e off
    ],
  )

  end_step : (n : ℕ) (b : Bool) (xs : List ℕ) → p (n + 1) ≡ b → IsEnd n xs → IsEnd (n + 1) (xs ++ cond b ((n + 1) ∷ []) [])
  end_step n true xs on end = end_on n xs on
  end_step n false xs off end =
      rw (append-nil xs) (λ some d. latest_more n (Some (get_or xs (length xs - 1) d)) off (end.0 some d), λ none. latest_more n None off (end.1 none))

  end_is : (n : ℕ) → IsEnd n (kept n)
  end_is zero = (λ some d. absurd (omega arith), λ none k low high. absurd (omega arith))
  end_is (suc n) =
      let e : n + 1 ≡ suc n = omega arith in
      subst (λ (m : ℕ). IsEnd m (kept m)) e
      (rw (kept_more p 1 n (n + 1) (omega arith)) (end_step n (p (n + 1)) (kept n) refl (end_is n)))

  pub latest_is : (from last count : ℕ) (numbers : List ℕ) → numbers ≡ kept last → from ≤ last → count ≡ length (kept from) → 0 < count → IsLatest p from (slice_get numbers (count - 1))
  latest_is from last count numbers are le counted some =
      let end = end_is from in
      let all = are ∙ split p from last le in
      let long = ap length all ∙ length-append (kept from) (filter p (range_with_len (1 + from) (last - from))) in
      let inside : count - 1 < length numbers = omega arith in
      let at : get_or numbers (count - 1) 0 ≡ get_or (kept from) (length (kept from) - 1) 0 =
      rw (all, counted) (get_or_append_left (kept from) (filter p (range_with_len (1 + from) (last - from))) 0 (length (kept from) - 1) (omega arith))
      in
      rw (slice_get-get_or numbers (count - 1) 0 inside, at) (end.0 (omega arith) 0)

  pub latest_none : (from : ℕ) → length (kept from) ≡ 0 → IsLatest p from None
  latest_none from none = (end_is from).1 none
