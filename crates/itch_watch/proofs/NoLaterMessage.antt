-- No message of a stock comes after its last one.
use Rattle.std.proofs.Common.{◌≡◌, ℕ, ◌-◌, ◌<◌, List, [], false, get_or, length, subst, arith, inl, inr}
use Rattle.std.proofs.lemmas.Bool.{cases_lt}
use Rattle.itch_table.specs.Projection.{IsQuiet, is_of_stock}
use Rattle.itch_table.specs.Shows.{HasMessage}
use Rattle.itch_table.proofs.StockDays.{other_part}
use Rattle.day_core.specs.Owners.{last_message}
use Rattle.day_core.proofs.Progress.{until_last}

pub quiet_after : (day : List (List ℕ)) (locate : ℕ) → IsQuiet day locate (last_message day locate) (length day)
quiet_after day locate =
    until_last day locate (λ n last. IsQuiet day locate last n) (λ m above within. absurd (omega (arith, above, within))) (λ n m above within. absurd (omega (arith, above, within)))
    (λ n last off before m above within. elim (cases_lt n m) [
      | inl past ↦
          let here : n ≡ m - 1 = omega (arith, past, within) in
          other_part locate _ (subst (λ (k : ℕ). is_of_stock locate (get_or day k []) ≡ false) here off)
      | inr earlier ↦ before m above earlier
    ]) (length day)

-- a stock with a message has a last one
pub some_last : (day : List (List ℕ)) (locate : ℕ) → HasMessage day locate → 0 < last_message day locate
some_last day locate has = elim (cases_lt 0 (last_message day locate)) [
  | inl some ↦ some
  | inr none ↦ absurd (quiet_after day locate has.0 (omega (arith, none, has.1)) has.2 has.3)
]
