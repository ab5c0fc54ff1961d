-- Numbers that rise, with a later one after them.
use Rattle.std.proofs.Common.{ℕ, zero, suc, ◌<◌, List, [], ◌∷◌, ◌++◌, arith, add-one}
use Rattle.std.specs.List.Sorted.{IsStrictlyIncreasing}
use Rattle.day_core.specs.Owners.{last_or}

rising_tail : (x : ℕ) (xs : List ℕ) → IsStrictlyIncreasing (x ∷ xs) → IsStrictlyIncreasing xs
rising_tail x xs rising k lt = let next = rising (suc k) (omega (arith, lt)) in rw add-one (rw add-one at next)

rising_cons : (x y : ℕ) (ys : List ℕ) → x < y → IsStrictlyIncreasing (y ∷ ys) → IsStrictlyIncreasing (x ∷ y ∷ ys)
rising_cons x y ys less rising zero lt = less
rising_cons x y ys less rising (suc k) lt = let next = rising k (omega (arith, lt)) in rw add-one (rw add-one at next)

pub rising_more : (x : ℕ) (xs : List ℕ) (n : ℕ) → IsStrictlyIncreasing (x ∷ xs) → last_or x xs < n → IsStrictlyIncreasing (x ∷ xs ++ n ∷ [])
rising_more x [] n rising less = rising_cons x n [] less (λ k lt. absurd (omega (arith, lt)))
rising_more x (y ∷ ys) n rising less =
    rising_cons x y (ys ++ n ∷ []) (rising 0 (omega arith)) (rising_more y ys n (rising_tail x (y ∷ ys) rising) less)
