-- A list of which the elements that pass a test are picked: where each comes to stand, and how many come before it.
use Rattle.std.proofs.Common.{◌≡◌, ℕ, zero, suc, ◌+◌, List, [], ◌∷◌, take, get_or, Bool, true, false, cond, arith}
use Rattle.std.specs.Prelude.{filter, count_by}
use Rattle.std.proofs.lemmas.Grind.{common_steps}

module _ {X : Type 0} (p : X → Bool) (d : X) where
  pub picked-next : p d ≡ false → (xs : List X) (n : ℕ) → count_by p (take (suc n) xs) ≡ count_by p (take n xs) + cond (p (get_or xs n d)) 1 0
  picked-next off [] n = grind (arith, common_steps)
  picked-next off (x ∷ xs) zero = grind (arith, common_steps)
  picked-next off (x ∷ xs) (suc n) = grind (arith, common_steps, picked-next off xs n)

  -- an element that passes stands after those before it that pass
  pub picked-at : p d ≡ false → (xs : List X) (n : ℕ) → p (get_or xs n d) ≡ true → get_or (filter p xs) (count_by p (take n xs)) d ≡ get_or xs n d
  picked-at off [] n on = grind (arith, common_steps)
  picked-at off (x ∷ xs) zero on = grind (arith, common_steps)
  picked-at off (x ∷ xs) (suc n) on = grind (arith, common_steps, picked-at off xs n)
