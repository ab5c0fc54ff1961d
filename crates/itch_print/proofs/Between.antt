-- The entries of a list from one index to another, as a loop comes to them.
use Rattle.std.proofs.Common.{◌≡◌, ℕ, ◌<◌, ◌≤◌, List, length, drop, take, min, ap, sym, ◌∙◌, arith, inl, inr}
use Rattle.std.proofs.Math.ListN.{drop_of_length-le}
use Rattle.std.proofs.lemmas.Bool.{cases_lt}
use Rattle.std.proofs.lemmas.List.{length-take, take_min}

-- where a loop from one index has come to the end, it has come to all entries up to there
pub between_all : {X : Type 0} (xs : List X) (from to index : ℕ) → from ≤ index → min to (length xs) ≤ index
    → (from < index → index ≤ min to (length xs)) → drop from (take index xs) ≡ drop from (take to xs)
between_all xs from to index began ended within = elim (cases_lt from index) [
  | inl some ↦
      let at : index ≡ min to (length xs) = omega (arith, ended, within some) in
      ap (λ (k : ℕ). drop from (take k xs)) at ∙ ap (drop from) (take_min to xs)
  | inr none ↦
      let past : length (take index xs) ≤ from = omega (arith, length-take index xs, none) in
      let short : length (take to xs) ≤ from = omega (arith, length-take to xs, ended, none) in
      drop_of_length-le (take index xs) past ∙ sym (drop_of_length-le (take to xs) short)
]
