-- An index of a day that is being made.
use Rattle.std.proofs.Common.{◌≡◌, ◌≢◌, ℕ, zero, suc, ◌+◌, ◌<◌, List, [], ◌∷◌, ◌++◌, length, map, set, cond, refl, ap, sym, ◌∙◌, arith, inl, inr, append-nil}
use Rattle.std.specs.List.{range_with_len}
use Rattle.std.proofs.lemmas.Bool.{cases_eq, eq-eqb, ne_eqb}
use Rattle.std.proofs.lemmas.List.{get_or-set_same, get_or-set_other, length-map, map-set}
use Rattle.itch_table.specs.declared.outcome.Outcome.{Outcome}
use Rattle.itch_table.specs.declared.outcome.Part.{Part}
use Rattle.itch_table.specs.declared.outcome.Part.TheVariants.{Locate, Nowhere}
use Rattle.itch_table.specs.Parts.{part}
use Rattle.itch_table.specs.Projection.{is_locate}
use Rattle.day_core.specs.Owners.{of_stock, part_at}
use Rattle.day_core.proofs.FilteredRanges.{kept_more}
use Rattle.checkpoints.specs.Copies.{IsIndex, listed, numbers_of}
use Rattle.checkpoints.proofs.Reading.{IsReading, read_all, read_more, read_payload}

-- an empty list more
pub listed_more : (lists : List (List ℕ)) (code : ℕ) → listed (lists ++ [] ∷ []) code ≡ listed lists code
listed_more [] zero = refl
listed_more [] (suc code) = refl
listed_more (list ∷ lists) zero = refl
listed_more (list ∷ lists) (suc code) = listed_more lists code

-- a message more in one list
module _ {X : Type 0} (items : X → List ℕ) (lists : List X) (own : ℕ) (there : own < length lists) (list : X) (number : ℕ) (is : items list ≡ listed (map items lists) own ++ number ∷ []) where
  pub pushed_own : listed (map items (set lists own list)) own ≡ listed (map items lists) own ++ number ∷ []
  pushed_own =
      let room : own < length (map items lists) = omega (arith, there, length-map lists items) in
      rw (map-set items lists own list) (get_or-set_same (map items lists) own (items list) [] room ∙ is)

  pub pushed_others : (code : ℕ) → code ≢ own → listed (map items (set lists own list)) code ≡ listed (map items lists) code
  pushed_others code differ = rw (map-set items lists own list) (get_or-set_other (map items lists) own code (items list) [] differ)

-- the first n payloads were read, these are left, and these lists have their numbers
pub record IsIndexing (day left : List (List ℕ)) (n : ℕ) (lists : List (List ℕ)) : Type 0 where
  pub reading : IsReading day left n
  pub kept : (code : ℕ) → listed lists code ≡ of_stock day code (range_with_len 1 n)

pub index_all : (day left : List (List ℕ)) (n : ℕ) (lists : List (List ℕ)) → IsIndexing day left n lists → left ≡ [] → IsIndex day lists
unfolding numbers_of
index_all day left n lists before none code =
    before.kept code ∙ ap (λ (m : ℕ). of_stock day code (range_with_len 1 m)) (read_all day left n before.reading none)

module _ (day left rest : List (List ℕ)) (n : ℕ) (lists : List (List ℕ)) (before : IsIndexing day left n lists) (payload : List ℕ) (goes_on : left ≡ payload ∷ rest) where
  more : (code : ℕ) (p : Part) → p ≡ part payload → of_stock day code (range_with_len 1 (n + 1)) ≡ of_stock day code (range_with_len 1 n) ++ cond (is_locate code p) ((n + 1) ∷ []) []
  more code p is =
      let here : part_at day (n + 1) ≡ p = ap part (sym (read_payload day left rest n before.reading payload goes_on)) ∙ sym is in
      kept_more (λ (k : ℕ). is_locate code (part_at day k)) 1 n (n + 1) (omega arith)
      ∙ ap (λ (q : Part). of_stock day code (range_with_len 1 n) ++ cond (is_locate code q) ((n + 1) ∷ []) []) here

  -- a stock's message
  pub index_own : (locate : ℕ) → Locate locate ≡ part payload → (then : List (List ℕ)) → listed then locate ≡ listed lists locate ++ (n + 1) ∷ []
      → ((code : ℕ) → code ≢ locate → listed then code ≡ listed lists code) → IsIndexing day rest (n + 1) then
  index_own locate is then own others = record {
    reading = read_more day left rest n before.reading payload goes_on;
    kept = λ code. elim (cases_eq code locate) [
      | inl same ↦ rw (same, own, before.kept locate, more locate (Locate locate) is, eq-eqb locate locate refl) refl
      | inr differ ↦ rw (others code differ, before.kept code, more code (Locate locate) is, ne_eqb locate code (λ e. differ (sym e))) (sym (append-nil _))
    ];
  }

  -- a message of no stock
  pub index_other : (outcome : Outcome) → Nowhere outcome ≡ part payload → IsIndexing day rest (n + 1) lists
  index_other outcome is = record {
    reading = read_more day left rest n before.reading payload goes_on;
    kept = λ code. before.kept code ∙ sym (more code (Nowhere outcome) is ∙ append-nil _);
  }
