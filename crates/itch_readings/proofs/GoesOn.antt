-- A day that goes on with a payload after n messages.
use Rattle.std.proofs.Common.{◌≡◌, ℕ, ◌+◌, ◌-◌, ◌<◌, ◌≤◌, List, [], ◌∷◌, length, drop, get_or, ap, sym, ◌∙◌, arith}
use Rattle.std.proofs.lemmas.List.{drop_more, length-drop}
use Rattle.itch_table.specs.Projection.{payload_at}

module _ (day rest : List (List ℕ)) (n : ℕ) (payload : List ℕ) (goes_on : drop n day ≡ payload ∷ rest) where
  within : n < length day
  within = omega (arith, ap length goes_on, length-drop n day)

  pub one_more : n + 1 ≤ length day
  one_more = omega (arith, within)

  next : get_or day n [] ∷ drop (n + 1) day ≡ payload ∷ rest
  next = sym (drop_more day n [] within) ∙ goes_on

  -- the rest is what comes after one message more
  pub left_then : rest ≡ drop (n + 1) day
  left_then = let e = next in cc

  -- and the payload is that message
  pub here : get_or day n [] ≡ payload
  here = let e = next in cc

  pub payload-is : payload_at day (n + 1) ≡ payload
  payload-is =
      let same : n + 1 - 1 ≡ n = omega arith in
      ap (λ (k : ℕ). get_or day k []) same ∙ here
