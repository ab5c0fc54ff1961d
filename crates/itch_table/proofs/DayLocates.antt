-- The locate codes whose stocks have messages in a day.
use Rattle.std.proofs.Common.{◌≤◌, ◌≡◌, ◌+◌, ◌-◌, ◌<◌, ℕ, List, [], ◌∷◌, length, get_or, Bool, true, false, eqb, refl, ◌∙◌, arith, inl, inr, ap}
use Rattle.std.specs.Prelude.{filter, ◌↔◌}
use Rattle.std.specs.List.{All, Contains, list_any, range_with_len}
use Rattle.std.specs.List.Sorted.{IsStrictlyIncreasing}
use Rattle.std.proofs.lemmas.Bool.{cases_lt, eqb-true}
use Rattle.std.proofs.lemmas.Bool.Decides.{nat_tests}
use Rattle.std.proofs.lemmas.Grind.{common_steps}
use Rattle.std.proofs.lemmas.List.{get_or_past}
use Rattle.std.proofs.lemmas.List.Elements.{All-contains, All-get_or, filter_passes}
use Rattle.std.proofs.lemmas.List.Folds.{list_any_at}
use Rattle.std.proofs.lemmas.List.FromFn.{get_or-range_with_len, length-range_with_len}
use Rattle.std.proofs.lemmas.List.Kept.{IsStrictlyIncreasing-filter}
use Rattle.std.proofs.lemmas.Map.Views.{Contains-from_any}
use Rattle.byte_strings.specs.Bytes.{AreBytes}
use Rattle.itch_table.specs.declared.outcome.Part.TheVariants.{Locate}
use Rattle.itch_table.specs.After.{after}
use Rattle.itch_table.specs.World.{empty_world}
use Rattle.itch_table.specs.Parts.{part}
use Rattle.itch_table.specs.Projection.{only, is_of_stock, payload_at}
use Rattle.itch_table.specs.Shows.{HasMessage, locates_of_day}
use Rattle.itch_table.proofs.Days.{after-none}
use Rattle.itch_table.proofs.OneStock.{same_code}
use Rattle.itch_table.proofs.PartsFit.{part_fits}
use Rattle.itch_table.proofs.StockDays.{own_part, is_own_part, none_past, only-empty, rows_stand_still}

-- numbers one after another rise
pub range_rises : (a n : ℕ) → IsStrictlyIncreasing (range_with_len a n)
range_rises a n k lt =
    let short : k + 1 < n = omega (arith, lt, length-range_with_len a n) in
    omega (arith, get_or-range_with_len a n k 0 (omega arith), get_or-range_with_len a n (k + 1) 0 short)

pub rising : (day : List (List ℕ)) → IsStrictlyIncreasing (locates_of_day day)
unfolding locates_of_day
rising day = IsStrictlyIncreasing-filter (λ (locate : ℕ). list_any (is_of_stock locate) day) (range_with_len 0 0x1_0000) (range_rises 0 0x1_0000)

-- an element that passes is at some index
place_of : {X : Type 0} (p : X → Bool) (d : X) (xs : List X) → list_any p xs ≡ true → (i : ℕ) × (i < length xs) × (p (get_or xs i d) ≡ true)
place_of p d [] any = let never : ⊥ = cc in absurd never
place_of p d (x ∷ xs) any = elim (p x) as (λ (b : Bool). p x ≡ b → (i : ℕ) × (i < length (x ∷ xs)) × (p (get_or (x ∷ xs) i d) ≡ true)) [
  | true ↦ λ on. (0, omega arith, on)
  | false ↦ λ off.
      let rest = place_of p d xs (grind (arith, common_steps)) in
      (rest.0 + 1, omega (arith, rest.1), grind (arith, common_steps, rest.2))
] refl

-- a number is among those that pass where it is in the list and passes
pub any_picked : (p : ℕ → Bool) (q : ℕ) (ks : List ℕ) → p q ≡ true → list_any (eqb q) ks ≡ true → list_any (eqb q) (filter p ks) ≡ true
any_picked p q [] on any = any
any_picked p q (k ∷ ks) on any = grind (arith, common_steps, nat_tests, any_picked p q ks on)

abbrev any_message : List (List ℕ) → ℕ → Bool
any_message day locate = list_any (is_of_stock locate) day

message_of : (day : List (List ℕ)) (locate : ℕ) → any_message day locate ≡ true → HasMessage day locate
message_of day locate any =
    let found = place_of (is_of_stock locate) [] day any in
    let same : found.0 + 1 - 1 ≡ found.0 = omega arith in
    (found.0 + 1, omega arith, omega (arith, found.1), rw same (own_part locate (part (get_or day found.0 [])) found.2))

any_of : (day : List (List ℕ)) (locate : ℕ) → HasMessage day locate → any_message day locate ≡ true
any_of day locate has =
    list_any_at (is_of_stock locate) day (has.0 - 1) [] (omega (arith, has.1, has.2)) (is_own_part locate (part (payload_at day has.0)) has.3)

pub in_range : (locate n : ℕ) → locate < n → list_any (eqb locate) (range_with_len 0 n) ≡ true
in_range locate n lt =
    let here : get_or (range_with_len 0 n) locate 0 ≡ locate = get_or-range_with_len 0 n locate 0 lt ∙ omega arith in
    list_any_at (eqb locate) (range_with_len 0 n) locate 0 (omega (arith, length-range_with_len 0 n)) (rw here (same_code locate))

-- in a day of bytes a locate code is listed exactly where a message of its stock comes
pub members : (day : List (List ℕ)) → All AreBytes day → (locate : ℕ) → Contains (locates_of_day day) locate ↔ HasMessage day locate
unfolding locates_of_day
members day bytes locate =
    let codes = range_with_len 0 0x1_0000 in (
      λ listed. message_of day locate (All-contains (λ (l : ℕ). any_message day l ≡ true) (filter (any_message day) codes) locate (filter_passes (any_message day) codes) listed),
      λ has.
          let here : AreBytes (payload_at day has.0) = All-get_or AreBytes day (has.0 - 1) [] (omega (arith, has.1, has.2)) bytes in
          let fits : locate < 0x1_0000 = part_fits (payload_at day has.0) locate here has.3 in
          Contains-from_any eqb-true locate (filter (any_message day) codes)
          (any_picked (any_message day) locate codes (any_of day locate has) (in_range locate 0x1_0000 fits)),
    )

-- past the end of a day no message comes
within_day : (day : List (List ℕ)) (locate m : ℕ) → part (payload_at day m) ≡ Locate locate → m ≤ length day
within_day day locate m own = elim (cases_lt (length day) m) [
  | inl past ↦
      let nothing : payload_at day m ≡ [] = get_or_past day (m - 1) [] (omega (arith, past)) in
      let on : is_of_stock locate [] ≡ true = is_own_part locate (part []) (rw nothing at own) in
      let off : is_of_stock locate [] ≡ false = none_past locate in
      let never : ⊥ = cc in
      absurd never
  | inr within ↦ within
]

-- a stock without messages has no rows
pub no_rows : (day : List (List ℕ)) (locate n : ℕ) → ¬ HasMessage day locate → only locate (after day n) ≡ empty_world
no_rows day locate n none =
    rows_stand_still day locate 0 n (omega arith) (λ m above within own. none (m, above, within_day day locate m own, own))
    ∙ ap (only locate) (after-none day) ∙ only-empty locate

pub ruleset day_locates = (rising, members, no_rows)
