-- The lines of the stocks of a day: those of the locate codes that have a directory row are all.
use Rattle.std.proofs.Common.{◌≡◌, ◌&&◌, ℕ, List, [], ◌∷◌, length, map, Option, None, Some, Bool, true, false, refl, ap, sym, ◌∙◌, arith, inl, inr}
use Rattle.std.specs.Prelude.{filter}
use Rattle.std.specs.Ordering.{eq_by_cmp, nat_cmp}
use Rattle.std.specs.Option.{is_some}
use Rattle.std.specs.List.{All, flat_map, list_any}
use Rattle.std.specs.List.Sorted.{IsStrictlyIncreasing}
use Rattle.std.specs.Cmp.{nat_cmp_total, eq_by_cmp_equiv}
use Rattle.std.specs.FinMap.{FinMap, contains_key, contains_key-keys, entries, entries_sorted, get-empty, keys, nat_cmp-IsAntisymmetric}
use Rattle.std.proofs.lemmas.Grind.{common_steps}
use mathlib.Core.Bool.{true≢false}
use Rattle.std.proofs.lemmas.Bool.{cases_Bool}
use Rattle.std.proofs.lemmas.List.Folds.{flat_map-map}
use Rattle.std.proofs.lemmas.List.Kept.{IsStrictlyIncreasing-filter}
use Rattle.std.proofs.lemmas.Map.Keys.{sorted_from_strictly_increasing}
use Rattle.std.proofs.lemmas.Map.Lookups.{btree_set_from_contains}
use Rattle.std.proofs.lemmas.Map.Views.{list_any-from_Contains, tells_apart}
use Rattle.byte_strings.specs.Bytes.{AreBytes}
use Rattle.itch_table.specs.declared.status.StockRow.{StockRow}
use Rattle.itch_table.specs.After.{after}
use Rattle.itch_table.specs.Projection.{only}
use Rattle.itch_table.specs.Shows.{HasMessage, locates_of_day}
use Rattle.itch_table.specs.World.{World, locates, stock_row}
use Rattle.itch_table.proofs.DayLocates.{members, no_rows, rising}
use Rattle.itch_table.proofs.SortedKeys.{sorted_keys}
use Rattle.itch_table.proofs.OneStock.{orders_of-only, status-only, totals-only, stock_row-only}
use Rattle.day_core.specs.Replaying.{last_machine}
use Rattle.stock_text.specs.Stocks.{stock_lines}
use Rattle.itch_engine.specs.Report.{machine_lines}

-- ---- the keys of a map of numbers among other numbers

-- a number is among those that pass a test where it passes and is in the list
any_picked : (p : ℕ → Bool) (q : ℕ) (ls : List ℕ) → list_any (eq_by_cmp nat_cmp q) (filter p ls) ≡ (p q && list_any (eq_by_cmp nat_cmp q) ls)
any_picked p q [] = grind (arith, common_steps)
any_picked p q (l ∷ ls) =
    elim (cases_Bool (eq_by_cmp nat_cmp q l)) [
      | inl same ↦ let alike : p l ≡ p q = ap p (sym (tells_apart nat_cmp-IsAntisymmetric q l same)) in grind (arith, common_steps, any_picked p q ls)
      | inr differ ↦ grind (arith, common_steps, any_picked p q ls)
    ]

-- numbers that rise, among which all keys are, are the keys where the others are left out
keys_picked : {X : Type 0} (m : FinMap nat_cmp X) (ls : List ℕ) → IsStrictlyIncreasing ls
    → ((q : ℕ) → list_any (eq_by_cmp nat_cmp q) ls ≡ false → contains_key m q ≡ false)
    → filter (contains_key m) ls ≡ keys m
keys_picked m ls rising others =
    btree_set_from_contains nat_cmp_total (record { keys = filter (contains_key m) ls }) (record { keys = keys m })
    (sorted_from_strictly_increasing _ (IsStrictlyIncreasing-filter (contains_key m) ls rising))
    (sorted_keys (entries m) (entries_sorted m))
    (λ q. any_picked (contains_key m) q ls ∙ within q ∙ contains_key-keys m q)
    nat_cmp-IsAntisymmetric
  where
    within : (q : ℕ) → (contains_key m q && list_any (eq_by_cmp nat_cmp q) ls) ≡ contains_key m q
    within q = elim (cases_Bool (list_any (eq_by_cmp nat_cmp q) ls)) [
      | inl listed ↦ grind (arith, common_steps)
      | inr not_listed ↦ let none = others q not_listed in grind (arith, common_steps)
    ]

flat_map_picked : {X A : Type 0} (f : X → List A) (p : X → Bool) (xs : List X) → ((x : X) → p x ≡ false → f x ≡ []) → flat_map f (filter p xs) ≡ flat_map f xs
flat_map_picked f p [] none = refl
flat_map_picked f p (x ∷ xs) none =
    elim (cases_Bool (p x)) [
      | inl on ↦ grind (arith, common_steps, flat_map_picked f p xs none)
      | inr off ↦ let nothing = none x off in grind (arith, common_steps, flat_map_picked f p xs none)
    ]

-- ---- the stocks of a day

-- a stock's lines are in its own rows
own_lines : (w : World) (locate : ℕ) → stock_lines (only locate w) locate ≡ stock_lines w locate
own_lines w locate = rw (orders_of-only w locate, status-only w locate, totals-only w locate) refl

-- a locate code without a directory row has no lines
no_lines : (w : World) (locate : ℕ) → contains_key w.stocks locate ≡ false → stock_lines w locate ≡ []
no_lines w locate none = let nothing : stock_row w locate ≡ None = not_found (stock_row w locate) none in rw nothing refl
  where
    not_found : (o : Option StockRow) → is_some o ≡ false → o ≡ None
    not_found None h = refl
    not_found (Some row) h = absurd (true≢false h)

-- a locate code that isn't one of a day has no directory row after it
no_directory : (day : List (List ℕ)) (n locate : ℕ) → All AreBytes day → list_any (eq_by_cmp nat_cmp locate) (locates_of_day day) ≡ false
    → contains_key (after day n).stocks locate ≡ false
no_directory day n locate bytes off =
    let none : HasMessage day locate → ⊥ = λ has.
    true≢false (sym (list_any-from_Contains (eq_by_cmp_equiv nat_cmp_total) locate (locates_of_day day) ((members day bytes locate).1 has)) ∙ off) in
    ap is_some (sym (stock_row-only (after day n) locate) ∙ ap (λ (w : World). stock_row w locate) (no_rows day locate n none) ∙ get-empty nat_cmp locate)

pub lines_of_day : (day : List (List ℕ)) → All AreBytes day
    → flat_map machine_lines (map (last_machine day) (locates_of_day day)) ≡ flat_map (stock_lines (after day (length day))) (locates (after day (length day)))
lines_of_day day bytes =
    let w = after day (length day) in
    flat_map-map machine_lines (last_machine day) (locates_of_day day)
    ∙ ap (λ (f : ℕ → List ℕ). flat_map f (locates_of_day day)) (λ i locate. own_lines w locate i)
    ∙ sym (flat_map_picked (stock_lines w) (contains_key w.stocks) (locates_of_day day) (no_lines w))
    ∙ ap (flat_map (stock_lines w)) (keys_picked w.stocks (locates_of_day day) (rising day) (λ q off. no_directory day (length day) q bytes off))
