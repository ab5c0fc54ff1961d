-- A day, message by message, as one stock sees it.
use Rattle.std.proofs.Common.{◌≡◌, ◌≢◌, ℕ, zero, suc, ◌+◌, ◌-◌, List, [], get_or, Bool, true, false, cond, refl, sym, ap, ◌∙◌, arith, add-one, inl, inr}
use Rattle.std.specs.Cmp.{nat_cmp_total}
use Rattle.std.specs.FinMap.{nat_cmp-IsAntisymmetric}
use Rattle.std.proofs.lemmas.Bool.{cases_lt, eqb-true}
use Rattle.itch_layouts.specs.Shapes.{shape_of}
use Rattle.itch_table.specs.declared.outcome.Outcome.{Outcome}
use Rattle.itch_table.specs.declared.outcome.Part.{Part}
use Rattle.itch_table.specs.declared.outcome.Part.TheVariants.{Locate, Nowhere}
use Rattle.itch_table.specs.After.{after, outcome}
use Rattle.itch_table.specs.Parts.{part}
use Rattle.itch_table.specs.Projection.{only, payload_at, is_locate, is_of_stock, stock_day, steps_of, RowsAreOwn, OutcomesAreOwn, RowsStandStill}
use Rattle.itch_table.specs.Table.{step}
use Rattle.itch_table.specs.World.{World, empty_world}
use Rattle.itch_table.proofs.OwnSteps.{steps_are_own}
use Rattle.itch_table.proofs.Days.{after-next, outcome-next, after-none}
use Rattle.itch_table.proofs.KeptKeys.{kept-empty}
use Rattle.itch_table.proofs.Keys.{key_total, key_exact}
use Rattle.itch_table.proofs.NoStock.{outcomes_are_fixed}
use Rattle.itch_table.proofs.OneStock.{same_code, same_world}
use Rattle.itch_table.proofs.OtherSteps.{others_stay}
use Rattle.itch_table.proofs.Picked.{picked-next, picked-at}

-- ---- a part, as a fact and as a test

pub own_part : (locate : ℕ) (p : Part) → is_locate locate p ≡ true → p ≡ Locate locate
own_part locate (Locate other) h = ap Locate (eqb-true other locate h)
own_part locate (Nowhere fixed) h = let never : ⊥ = cc in absurd never

pub is_own_part : (locate : ℕ) (p : Part) → p ≡ Locate locate → is_locate locate p ≡ true
is_own_part locate p e = rw e (same_code locate)

pub other_part : (locate : ℕ) (p : Part) → is_locate locate p ≡ false → p ≢ Locate locate
other_part locate p h e = let on = is_own_part locate p e in let never : ⊥ = cc in never

-- what stands past the end of a day is no stock's
pub none_past : (locate : ℕ) → is_of_stock locate [] ≡ false
unfolding shape_of
none_past locate = refl

-- ---- the rows, message by message

pub only-empty : (locate : ℕ) → only locate empty_world ≡ empty_world
unfolding only
only-empty locate =
    same_world _ _ (kept-empty key_total key_exact _) (kept-empty key_total key_exact _) refl (kept-empty nat_cmp_total nat_cmp-IsAntisymmetric _) refl

-- a stock's own message, on its rows alone
pub own_next : (day : List (List ℕ)) (locate n : ℕ) → part (get_or day n []) ≡ Locate locate
    → step (only locate (after day n)) (get_or day n []) ≡ (outcome day (1 + n), only locate (after day (n + 1)))
own_next day locate n own =
    steps_are_own (after day n) (get_or day n []) locate own
    ∙ ap (λ (o : Outcome). (o, only locate (step (after day n) (get_or day n [])).1)) (sym (outcome-next day n))
    ∙ ap (λ (w : World). (outcome day (1 + n), only locate w)) (sym (after-next day n))

pub other_next : (day : List (List ℕ)) (locate n : ℕ) → part (get_or day n []) ≢ Locate locate → only locate (after day (n + 1)) ≡ only locate (after day n)
other_next day locate n other = ap (only locate) (after-next day n) ∙ others_stay (after day n) (get_or day n []) locate other

-- ---- how many messages are the stock's

pub steps-none : (day : List (List ℕ)) (locate : ℕ) → steps_of day locate 0 ≡ 0
unfolding steps_of
steps-none day locate = refl

pub steps-next : (day : List (List ℕ)) (locate n : ℕ) → steps_of day locate (n + 1) ≡ steps_of day locate n + cond (is_of_stock locate (get_or day n [])) 1 0
unfolding steps_of
steps-next day locate n = rw add-one (picked-next (is_of_stock locate) [] (none_past locate) day n)

pub steps_next_own : (day : List (List ℕ)) (locate n : ℕ) → is_of_stock locate (get_or day n []) ≡ true → steps_of day locate (suc n) ≡ 1 + steps_of day locate n
steps_next_own day locate n own =
    let one : n + 1 ≡ suc n = omega arith in
    let next : steps_of day locate (n + 1) ≡ steps_of day locate n + 1 = steps-next day locate n ∙ ap (λ (b : Bool). steps_of day locate n + cond b 1 0) own in
    ap (steps_of day locate) (sym one) ∙ next ∙ omega arith

-- a stock's message stands in the stock's day after those before it
pub stands_at : (day : List (List ℕ)) (locate n : ℕ) → is_of_stock locate (get_or day n []) ≡ true
    → get_or (stock_day day locate) (steps_of day locate n) [] ≡ get_or day n []
unfolding stock_day steps_of
stands_at day locate n own = picked-at (is_of_stock locate) [] (none_past locate) day n own

-- ---- the laws

-- one message more, whether it is the stock's or not
rows_next : (day : List (List ℕ)) (locate n : ℕ) (b : Bool) → is_of_stock locate (get_or day n []) ≡ b
    → only locate (after day n) ≡ after (stock_day day locate) (steps_of day locate n)
    → only locate (after day (n + 1)) ≡ after (stock_day day locate) (steps_of day locate n + cond b 1 0)
rows_next day locate n true own before =
    ap (λ (r : Outcome × World). r.1) (sym (own_next day locate n (own_part locate _ own)))
    ∙ ap (λ (w : World). (step w (get_or day n [])).1) before
    ∙ ap (λ (payload : List ℕ). (step (after (stock_day day locate) (steps_of day locate n)) payload).1) (sym (stands_at day locate n own))
    ∙ sym (after-next (stock_day day locate) (steps_of day locate n))
rows_next day locate n false other before =
    let same : steps_of day locate n + 0 ≡ steps_of day locate n = omega arith in
    other_next day locate n (other_part locate _ other) ∙ before ∙ ap (after (stock_day day locate)) (sym same)

pub rows_are_own : RowsAreOwn
rows_are_own day locate zero = rw (after-none day, steps-none day locate, after-none (stock_day day locate)) (only-empty locate)
rows_are_own day locate (suc n) =
    let one : n + 1 ≡ suc n = omega arith in
    rw (← one) (
    rows_next day locate n (is_of_stock locate (get_or day n [])) refl (rows_are_own day locate n)
    ∙ ap (after (stock_day day locate)) (sym (steps-next day locate n))
    )

pub outcomes_are_own : OutcomesAreOwn
outcomes_are_own day locate zero some own = absurd (omega (arith, some))
outcomes_are_own day locate (suc n) some own =
    let i : suc n - 1 ≡ n = omega arith in
    let here : part (get_or day n []) ≡ Locate locate = rw i at own in
    let test : is_of_stock locate (get_or day n []) ≡ true = is_own_part locate _ here in
    let k = steps_of day locate n in
    let steps : steps_of day locate (suc n) ≡ 1 + k = steps_next_own day locate n test in
    let number : suc n ≡ 1 + n = omega arith in
    rw (steps, number) (
    ap (λ (r : Outcome × World). r.0) (sym (own_next day locate n here))
    ∙ ap (λ (w : World). (step w (get_or day n [])).0) (rows_are_own day locate n)
    ∙ ap (λ (payload : List ℕ). (step (after (stock_day day locate) k) payload).0) (sym (stands_at day locate n test))
    ∙ sym (outcome-next (stock_day day locate) k)
    )

pub outcomes_stay_fixed : (day : List (List ℕ)) (n : ℕ) (fixed : Outcome) → part (payload_at day n) ≡ Nowhere fixed → outcome day n ≡ fixed
unfolding outcome
outcomes_stay_fixed day n fixed none = outcomes_are_fixed (after day (n - 1)) (payload_at day n) fixed none

pub rows_stand_still : RowsStandStill
rows_stand_still day locate from zero le none = let e : from ≡ 0 = omega (arith, le) in rw e
rows_stand_still day locate from (suc n) le none = elim (cases_lt from (suc n)) [
  | inl lt ↦
      let i : suc n - 1 ≡ n = omega arith in
      let one : n + 1 ≡ suc n = omega arith in
      let other : part (get_or day n []) ≢ Locate locate = rw i at (none (suc n) lt (omega arith)) in
      let last : only locate (after day (suc n)) ≡ only locate (after day n) = rw one at (other_next day locate n other) in
      last ∙ rows_stand_still day locate from n (omega (arith, lt)) (λ m above within. none m above (omega (arith, within)))
  | inr ge ↦ let e : from ≡ suc n = omega (arith, le, ge) in rw e
]

pub ruleset by_stock = (rows_are_own, outcomes_are_own, rows_stand_still)
