-- The locate codes of a day's stocks and of a worker's, and values that stand beside them.
use Rattle.std.proofs.Common.{◌≡◌, ◌≢◌, ℕ, ◌-◌, ◌<◌, ◌≤◌, List, [], length, true, eqb, get_or, set, map, Option, Result, Ok, Err, MatchOption, MatchResult, refl, sym, ap, subst, ◌∙◌, arith, inl, inr}
use Rattle.std.specs.List.{Contains, list_any}
use Rattle.std.specs.List.Sorted.{IsBinarySearchResult, IsStrictlyIncreasing}
use Rattle.std.specs.Ordering.{nat_cmp}
use Rattle.std.specs.Result.{result_ok}
use Rattle.std.proofs.lemmas.Bool.{cases_lt, eqb-true}
use Rattle.std.proofs.lemmas.List.{get_or_default, get_or-map, length-map}
use Rattle.std.proofs.lemmas.List.Elements.{filter_passes}
use Rattle.std.proofs.lemmas.List.Folds.{list_any_at}
use Rattle.std.proofs.lemmas.List.Sorted.{searched}
use Rattle.std.proofs.lemmas.List.Kept.{AllPairs-from_increasing}
use Rattle.itch_table.specs.declared.outcome.Part.{Part}
use Rattle.itch_table.specs.declared.outcome.Part.TheVariants.{Locate, Nowhere}
use Rattle.itch_table.specs.Projection.{is_of_stock}
use Rattle.itch_table.specs.Shows.{locates_of_day}
use Rattle.itch_table.proofs.StockDays.{is_own_part}
use Rattle.day_core.specs.Owners.{is_own, locates_by, owner, part_at}
use Rattle.day_core.proofs.FilteredRanges.{kept_there, map_set}

pub same_code : {l m : ℕ} → Locate l ≡ Locate m → l ≡ m
same_code same = cc

-- a part of a worker's is a stock
pub own_code : (workers worker : ℕ) (own : Part) → is_own workers worker own ≡ true → (locate : ℕ) × (own ≡ Locate locate)
own_code workers worker (Locate locate) is = (locate, refl)
own_code workers worker (Nowhere outcome) is = let never : ⊥ = cc in absurd never

-- in a rising list each code stands once
pub code_once : (codes : List ℕ) (i j : ℕ) → IsStrictlyIncreasing codes → i < length codes → j < length codes → get_or codes i 0 ≡ get_or codes j 0 → i ≡ j
code_once codes i j rising li lj same =
    let rises = AllPairs-from_increasing codes rising in
    elim (cases_lt i j) [
      | inl below ↦ absurd (omega (arith, same, rises i j 0 below lj))
      | inr not ↦ elim (cases_lt j i) [
        | inl above ↦ absurd (omega (arith, same, rises j i 0 above li))
        | inr neither ↦ omega (arith, not, neither)
      ]
    ]

-- that of a message of the day is one of the day's
pub code_there : (day : List (List ℕ)) (n locate : ℕ) → 1 ≤ n → n ≤ length day → locate < 0x1_0000 → part_at day n ≡ Locate locate → Contains (locates_of_day day) locate
unfolding locates_of_day
code_there day n locate some within fits mine =
    kept_there (λ l. list_any (is_of_stock l) day) 0 0x1_0000 locate (omega arith) (omega (arith, fits)) (list_any_at (is_of_stock locate) day (n - 1) [] (omega (arith, some, within)) (is_own_part locate _ mine))

-- the owner of a worker's
pub code_owner : (workers worker : ℕ) (codes : List ℕ) (k d : ℕ) → k < length (locates_by workers worker codes) → owner workers (get_or (locates_by workers worker codes) k d) ≡ worker
code_owner workers worker codes k d lt = eqb-true _ _ (filter_passes (λ l. eqb (owner workers l) worker) codes k d lt)

-- ---- values that stand beside codes, of which one stands at a place

module _ {X : Type 0} (codes : List ℕ) (f : ℕ → X) (values : List X) (are : values ≡ map f codes) (place code : ℕ) (found : (place < length codes) × (get_or codes place 0 ≡ code)) where
  pub values_long : place < length values
  values_long = omega (arith, found.0, ap length are, length-map codes f)

  pub value_at : (d : X) → get_or values place d ≡ f code
  value_at d = ap (λ (xs : List X). get_or xs place d) are ∙ get_or-map f codes place 0 d found.0 ∙ ap f found.1

  -- its value is another, and those of the others stay
  pub value_set : (g : ℕ → X) (v : X) → IsStrictlyIncreasing codes → v ≡ g code → ((k : ℕ) → k < length codes → get_or codes k 0 ≢ code → g (get_or codes k 0) ≡ f (get_or codes k 0)) → set values place v ≡ map g codes
  value_set g v rising is others =
      map_set f g codes values place v found.0 are (is ∙ ap g (sym found.1)) (λ k low differ. others k low (λ e. differ (code_once codes k place rising low found.0 (e ∙ sym found.1))))

-- ---- a code is looked for

pub code_found : (codes : List ℕ) (code : ℕ) (r : Result ℕ ℕ) (o : Option ℕ) → IsStrictlyIncreasing codes → o ≡ result_ok r → IsBinarySearchResult (λ y. nat_cmp y code) codes r
    → MatchOption o (¬ Contains codes code) (λ i. (i < length codes) × (get_or codes i 0 ≡ code))
code_found codes code r o rising is found =
    let rises : (i j : ℕ) → i ≤ j → j < length codes → get_or codes i 0 ≤ get_or codes j 0 =
    λ i j le lt. elim (cases_lt i j) [
      | inl below ↦ omega (arith, AllPairs-from_increasing codes rising i j 0 below lt)
      | inr not ↦ let same : i ≡ j = omega (arith, le, not) in omega (arith, ap (λ (k : ℕ). get_or codes k 0) same)
    ] in
    subst (λ (p : Option ℕ). MatchOption p (¬ Contains codes code) (λ i. (i < length codes) × (get_or codes i 0 ≡ code))) (sym is) (by r (searched codes code r found rises))
  where
    by : (s : Result ℕ ℕ) → MatchResult s (λ i. (i < length codes) × (get_or codes i 0 ≡ code)) (λ i. (i ≤ length codes) × ((k : ℕ) → k < i → get_or codes k 0 < code) × ((k : ℕ) → i ≤ k → k < length codes → code < get_or codes k 0))
        → MatchOption (result_ok s) (¬ Contains codes code) (λ i. (i < length codes) × (get_or codes i 0 ≡ code))
    by (Ok i) at = at
    by (Err i) none = λ has.
        let here : get_or codes has.0 0 ≡ code = get_or_default codes has.0 0 code has.1 ∙ has.2 in
        elim (cases_lt has.0 i) [
          | inl below ↦ omega (arith, none.1 has.0 below, here)
          | inr not ↦ omega (arith, none.2 has.0 (omega (arith, not)) has.1, here)
        ]
