-- A day that more messages follow: what its own messages make is the same.
use Rattle.std.proofs.Common.{◌≡◌, ℕ, zero, suc, ◌+◌, ◌-◌, ◌<◌, ◌≤◌, List, [], ◌∷◌, ◌++◌, length, get_or, refl, sym, ap, subst, ◌∙◌, arith}
use Rattle.std.proofs.lemmas.List.{get_or_append_left, get_or_push, length-append}
use Rattle.itch_table.specs.declared.outcome.Outcome.{Outcome}
use Rattle.itch_table.specs.After.{after, outcome}
use Rattle.itch_table.specs.Parts.{part}
use Rattle.itch_table.specs.Projection.{payload_at}
use Rattle.itch_table.specs.Table.{step}
use Rattle.itch_table.specs.World.{World}
use Rattle.itch_table.proofs.Days.{after-next, after-none, outcome-next}
use Rattle.itch_readings.specs.Naming.{Begins, BeginsBy, NamesStock}
use Rattle.itch_readings.specs.declared.naming.StockName.{StockName}

begins_same : (name : StockName) (p q : List ℕ) (o r : Outcome) → p ≡ q → o ≡ r → BeginsBy name p o → BeginsBy name q r
begins_same name p q o r payload found begins =
    subst (λ (f : Outcome). BeginsBy name q f) found (subst (λ (l : List ℕ). BeginsBy name l o) payload begins)

module _ (day more : List (List ℕ)) where
  pub after_more : (n : ℕ) → n ≤ length day → after (day ++ more) n ≡ after day n
  after_more zero within = after-none (day ++ more) ∙ sym (after-none day)
  after_more (suc n) within =
      let one : n + 1 ≡ suc n = omega arith in
      let here : get_or (day ++ more) n [] ≡ get_or day n [] = get_or_append_left day more [] n (omega (arith, within)) in
      ap (after (day ++ more)) (sym one) ∙ after-next (day ++ more) n
      ∙ ap (λ (w : World). (step w (get_or (day ++ more) n [])).1) (after_more n (omega (arith, within)))
      ∙ ap (λ (payload : List ℕ). (step (after day n) payload).1) here
      ∙ sym (after-next day n) ∙ ap (after day) one

  pub payload_more : (n : ℕ) → 0 < n → n ≤ length day → payload_at (day ++ more) n ≡ payload_at day n
  payload_more n some within = get_or_append_left day more [] (n - 1) (omega (arith, some, within))

  pub outcome_more : (n : ℕ) → 0 < n → n ≤ length day → outcome (day ++ more) n ≡ outcome day n
  unfolding outcome
  outcome_more n some within =
      ap (λ (w : World). (step w (payload_at (day ++ more) n)).0) (after_more (n - 1) (omega (arith, within)))
      ∙ ap (λ (payload : List ℕ). (step (after day (n - 1)) payload).0) (payload_more n some within)

  -- a stock of a name begins with the same messages
  pub begins_before : (name : StockName) (n : ℕ) → 0 < n → n ≤ length day → Begins (day ++ more) name n → Begins day name n
  begins_before name n some within = begins_same name _ _ _ _ (payload_more n some within) (outcome_more n some within)

  pub names_more : (name : StockName) (n locate : ℕ) → NamesStock day name n locate → NamesStock (day ++ more) name n locate
  names_more name n locate named = record {
    some = named.some;
    within = omega (arith, named.within, length-append day more);
    begins = begins_same name _ _ _ _ (sym (payload_more n named.some named.within)) (sym (outcome_more n named.some named.within)) named.begins;
    own = ap part (payload_more n named.some named.within) ∙ named.own;
    first = λ m some less begins. named.first m some less (begins_before name m some (omega (arith, less, named.within)) begins);
  }

-- one message more
module _ (day : List (List ℕ)) (payload : List ℕ) where
  pub longer : length (day ++ payload ∷ []) ≡ length day + 1
  longer = omega (arith, length-append day (payload ∷ []))

  stands : get_or (day ++ payload ∷ []) (length day) [] ≡ payload
  stands = get_or_push day payload [] (length day) refl

  pub payload_last : payload_at (day ++ payload ∷ []) (length day + 1) ≡ payload
  payload_last =
      let same : length day + 1 - 1 ≡ length day = omega arith in
      ap (λ (k : ℕ). get_or (day ++ payload ∷ []) k []) same ∙ stands

  pub after_last : after (day ++ payload ∷ []) (length day + 1) ≡ (step (after day (length day)) payload).1
  after_last =
      after-next (day ++ payload ∷ []) (length day)
      ∙ ap (λ (w : World). (step w (get_or (day ++ payload ∷ []) (length day) [])).1) (after_more day (payload ∷ []) (length day) (omega arith))
      ∙ ap (λ (p : List ℕ). (step (after day (length day)) p).1) stands

  pub outcome_last : outcome (day ++ payload ∷ []) (length day + 1) ≡ (step (after day (length day)) payload).0
  outcome_last =
      let number : 1 + length day ≡ length day + 1 = omega arith in
      ap (outcome (day ++ payload ∷ [])) (sym number) ∙ outcome-next (day ++ payload ∷ []) (length day)
      ∙ ap (λ (w : World). (step w (get_or (day ++ payload ∷ []) (length day) [])).0) (after_more day (payload ∷ []) (length day) (omega arith))
      ∙ ap (λ (p : List ℕ). (step (after day (length day)) p).0) stands

  pub after_whole : after (day ++ payload ∷ []) (length (day ++ payload ∷ [])) ≡ (step (after day (length day)) payload).1
  after_whole = ap (after (day ++ payload ∷ [])) longer ∙ after_last

  -- a stock of a name begins with it
  pub begins_last : (name : StockName) → BeginsBy name payload (step (after day (length day)) payload).0 → Begins (day ++ payload ∷ []) name (length day + 1)
  begins_last name = begins_same name _ _ _ _ (sym payload_last) (sym outcome_last)

  pub last_begins : (name : StockName) → Begins (day ++ payload ∷ []) name (length day + 1) → BeginsBy name payload (step (after day (length day)) payload).0
  last_begins name = begins_same name _ _ _ _ payload_last outcome_last
