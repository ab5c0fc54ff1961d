-- The stocks that have messages among the first of a day.
use Rattle.std.proofs.Common.{◌≡◌, ℕ, zero, suc, ◌+◌, ◌<◌, ◌≤◌, List, [], length, get_or, set, filter, replicate, Bool, true, false, ◌||◌, refl, ap, sym, ◌∙◌, arith, inl, inr}
use Rattle.std.specs.Prelude.{take}
use Rattle.std.specs.List.{range_with_len, list_any}
use Rattle.std.proofs.Math.Bool.{or-false, or-true}
use Rattle.std.proofs.lemmas.Bool.{cases_eq, eq-eqb, ne_eqb}
use Rattle.std.proofs.lemmas.List.{get_or-replicate, get_or-set_same, get_or-set_other, length-replicate, length-set, take_all}
use Rattle.std.proofs.lemmas.List.Folds.{list_any_more}
use Rattle.itch_table.specs.declared.outcome.Part.{Part}
use Rattle.itch_table.specs.declared.outcome.Part.TheVariants.{Locate, Nowhere}
use Rattle.itch_table.specs.Parts.{part}
use Rattle.itch_table.specs.Projection.{is_locate, is_of_stock}
use Rattle.itch_table.specs.Shows.{locates_of_day}

-- whether a stock has a message among the first of a day
abbrev has_until : List (List ℕ) → ℕ → ℕ → Bool
has_until day locate count = list_any (is_of_stock locate) (take count day)

-- at each locate code whether its stock has one
pub record AreSeen (day : List (List ℕ)) (count : ℕ) (seen : List Bool) : Type 0 where
  pub long : length seen ≡ 0x1_0000
  pub each : (locate : ℕ) → locate < 0x1_0000 → get_or seen locate false ≡ has_until day locate count

-- none before the first message
pub seen_none : (day : List (List ℕ)) (seen : List Bool) (count : ℕ) → count ≡ 0x1_0000 → seen ≡ replicate count false → AreSeen day 0 seen
seen_none day seen count all none = record {
  long = ap length none ∙ length-replicate count false ∙ all;
  each = λ code low. ap (λ (bs : List Bool). get_or bs code false) none ∙ get_or-replicate count code false false (omega (arith, low, all));
}

-- one message more
module _ (day : List (List ℕ)) (n : ℕ) (seen : List Bool) (before : AreSeen day n seen) (lt : n < length day) where
  tested : (code : ℕ) (b : Bool) → is_of_stock code (get_or day n []) ≡ b → has_until day code (n + 1) ≡ (has_until day code n || b)
  tested code b is = list_any_more (is_of_stock code) day n [] lt ∙ ap (λ (c : Bool). has_until day code n || c) is

  stays : (code : ℕ) → code < 0x1_0000 → is_of_stock code (get_or day n []) ≡ false → get_or seen code false ≡ has_until day code (n + 1)
  stays code low off = before.each code low ∙ sym (tested code false off ∙ or-false _)

  pub seen_own : (locate : ℕ) → Locate locate ≡ part (get_or day n []) → AreSeen day (n + 1) (set seen locate true)
  seen_own locate is = record {
    long = length-set seen locate true ∙ before.long;
    each = λ code low. elim (cases_eq code locate) [
      | inl same ↦
          ap (λ (k : ℕ). get_or (set seen k true) code false) (sym same) ∙ get_or-set_same seen code true false (omega (arith, before.long, low))
          ∙ sym (tested code true (rw (← is) (eq-eqb locate code (sym same))) ∙ or-true _)
      | inr differ ↦ get_or-set_other seen locate code true false differ ∙ stays code low (rw (← is) (ne_eqb locate code (λ e. differ (sym e))))
    ];
  }

  pub seen_nowhere : ((locate : ℕ) → part (get_or day n []) ≡ Locate locate → ⊥) → AreSeen day (n + 1) seen
  seen_nowhere none = record { long = before.long; each = λ code low. stays code low (not_own code (part (get_or day n [])) (none code)) }
    where
      not_own : (code : ℕ) (p : Part) → (p ≡ Locate code → ⊥) → is_locate code p ≡ false
      not_own code (Locate locate) none = ne_eqb locate code (λ e. none (ap Locate e))
      not_own code (Nowhere fixed) none = refl

-- two tests that agree on a range keep the same of it
same_kept : (p q : ℕ → Bool) (a n : ℕ) → ((k : ℕ) → a ≤ k → k < a + n → p k ≡ q k) → filter p (range_with_len a n) ≡ filter q (range_with_len a n)
same_kept p q a zero agree = refl
same_kept p q a (suc n) agree =
    let rest = same_kept p q (a + 1) n (λ k low high. agree k (omega arith) (omega arith)) in
    let now = agree a (omega arith) (omega arith) in
    rw (now, rest) refl

-- a whole day
pub locates_are : (day : List (List ℕ)) (seen : List Bool) → AreSeen day (length day) seen → filter (λ locate. get_or seen locate false) (range_with_len 0 0x1_0000) ≡ locates_of_day day
unfolding locates_of_day
locates_are day seen are =
    same_kept (λ (locate : ℕ). get_or seen locate false) (λ (locate : ℕ). list_any (is_of_stock locate) day) 0 0x1_0000
    (λ k low high. are.each k (omega arith) ∙ ap (list_any (is_of_stock k)) (take_all (length day) day (omega arith)))
