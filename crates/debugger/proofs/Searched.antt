-- What a search came to is the next stop, or the one before.
use Rattle.std.proofs.Common.{◌≡◌, ℕ, zero, suc, ◌+◌, ◌-◌, ◌<◌, ◌≤◌, ◌++◌, ◌∷◌, [], Bool, true, false, refl, sym, ap, ◌∙◌, arith, filter, cond, append-nil, inl, inr}
use Rattle.std.specs.List.{range_with_len}
use Rattle.std.proofs.lemmas.Bool.{cases_Bool, cases_lt}
use Rattle.day_core.specs.Owners.{last_or}
use Rattle.day_core.proofs.Progress.{last_push}
use Rattle.day_core.proofs.FilteredRanges.{kept_more}
use Rattle.debugger.specs.Finding.{IsOnward, IsRearward}
use Rattle.debugger.specs.Sessions.{first_or}

-- the first of some numbers that passes
found_first : (p : ℕ → Bool) (n a at other : ℕ) → a ≤ at → at < a + n → ((k : ℕ) → a ≤ k → k < at → p k ≡ false) → p at ≡ true → first_or other (filter p (range_with_len a n)) ≡ at
found_first p zero a at other low high fails passes = absurd (omega arith)
found_first p (suc n) a at other low high fails passes = elim (cases_lt a at) [
  | inl less ↦ rw (fails a (omega arith) less) (found_first p n (a + 1) at other (omega arith) (omega arith) (λ k l h. fails k (omega arith) h) passes)
  | inr not_less ↦
      let same : a ≡ at = omega arith in
      let here : p a ≡ true = ap p same ∙ passes in
      rw here same
]

found_none : (p : ℕ → Bool) (n a other : ℕ) → ((k : ℕ) → a ≤ k → k < a + n → p k ≡ false) → first_or other (filter p (range_with_len a n)) ≡ other
found_none p zero a other fails = refl
found_none p (suc n) a other fails = rw (fails a (omega arith) (omega arith)) (found_none p n (a + 1) other (λ k l h. fails k (omega arith) (omega arith)))

-- the next stop is the one that a search came to
pub onward_at : (p : ℕ → Bool) (from last at : ℕ) → IsOnward p from last at → first_or last (filter p (range_with_len (from + 1) (last - from))) ≡ at
onward_at p from last at h =
    let later = h.later in
    let within = h.within in
    elim (cases_lt at last) [
      | inl less ↦ found_first p (last - from) (from + 1) at last (omega arith) (omega arith) (λ k l g. h.between k (omega arith) g) (h.stops less)
      | inr not_less ↦
          let ends : at ≡ last = omega arith in
          elim (cases_Bool (p at)) [
            | inl on ↦ found_first p (last - from) (from + 1) at last (omega arith) (omega arith) (λ k l g. h.between k (omega arith) g) on
            | inr off ↦ found_none p (last - from) (from + 1) last (λ k l g. elim (cases_lt k at) [
              | inl before ↦ h.between k (omega arith) before
              | inr here ↦ let same : k ≡ at = omega arith in ap p same ∙ off
            ]) ∙ sym ends
          ]
    ]

-- the last of the numbers from 1 that passes
found_last : (p : ℕ → Bool) (n at : ℕ) → at ≤ n → ((k : ℕ) → at < k → k ≤ n → p k ≡ false) → (0 < at → p at ≡ true) → last_or 0 (filter p (range_with_len 1 n)) ≡ at
found_last p zero at low fails passes = omega arith
found_last p (suc n) at low fails passes =
    let next : suc n ≡ n + 1 = omega arith in
    let more = kept_more p 1 n (n + 1) (omega arith) in
    elim (cases_lt at (n + 1)) [
      | inl less ↦
          let off : p (n + 1) ≡ false = fails (n + 1) less (omega arith) in
          ap (λ (m : ℕ). last_or 0 (filter p (range_with_len 1 m))) next ∙ ap (last_or 0) more
          ∙ ap (λ (b : Bool). last_or 0 (filter p (range_with_len 1 n) ++ cond b ((n + 1) ∷ []) [])) off
          ∙ ap (last_or 0) (append-nil (filter p (range_with_len 1 n)))
          ∙ found_last p n at (omega arith) (λ k l h. fails k l (omega arith)) passes
      | inr not_less ↦
          let same : at ≡ n + 1 = omega arith in
          let on : p (n + 1) ≡ true = ap p (sym same) ∙ passes (omega arith) in
          ap (λ (m : ℕ). last_or 0 (filter p (range_with_len 1 m))) next ∙ ap (last_or 0) more
          ∙ ap (λ (b : Bool). last_or 0 (filter p (range_with_len 1 n) ++ cond b ((n + 1) ∷ []) [])) on
          ∙ last_push 0 (filter p (range_with_len 1 n)) (n + 1) ∙ sym same
    ]

-- and so is the one before
pub rearward_at : (p : ℕ → Bool) (from at : ℕ) → IsRearward p from at → last_or 0 (filter p (range_with_len 1 (from - 1))) ≡ at
rearward_at p from at h =
    let earlier = h.earlier in
    found_last p (from - 1) at (omega arith) (λ k l g. h.between k l (omega arith)) h.stops
