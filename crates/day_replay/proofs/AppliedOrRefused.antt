-- A message of a stock is applied or refused.
use Rattle.std.proofs.Common.{◌≡◌, ℕ, ◌-◌, List, [], ◌∷◌, length, Bool, true, false, filter, map, Option, Some, None, refl, sym, ap, subst, arith, inl, inr}
use Rattle.std.specs.List.{Contains, range_with_len}
use Rattle.std.proofs.lemmas.Bool.{cases_Bool}
use Rattle.itch_layouts.specs.Shapes.{shape_of}
use Rattle.itch_layouts.specs.declared.shape.Shape.{Shape}
use Rattle.itch_layouts.specs.declared.shape.Shape.TheVariants.{BadLength, Known, Unknown}
use Rattle.itch_table.specs.declared.outcome.Fault.{Fault}
use Rattle.itch_table.specs.declared.outcome.Outcome.TheVariants.{Applied}
use Rattle.itch_table.specs.declared.outcome.Part.TheVariants.{Locate}
use Rattle.itch_table.specs.After.{after, outcome}
use Rattle.itch_table.specs.Parts.{part_of_shape}
use Rattle.itch_table.specs.Projection.{payload_at}
use Rattle.itch_table.specs.Table.{result_of, step_shape}
use Rattle.itch_table.specs.World.{World}
use Rattle.day_core.specs.Owners.{part_at}
use Rattle.day_replay.specs.declared.refusals.RefusedMessage.{RefusedMessage}
use Rattle.day_replay.specs.Summaries.{OthersAreApplied, is_refused, refused_message, refused_of}
use Rattle.day_core.proofs.FilteredRanges.{kept_there}

applied_or_refused : (found : Option Fault) (old new : World) → is_refused (result_of found old new).0 ≡ false → (result_of found old new).0 ≡ Applied
applied_or_refused None old new not = refl
applied_or_refused (Some fault) old new not = let never : ⊥ = cc in absurd never

shape_applied : (w : World) (shape : Shape) (locate : ℕ) → part_of_shape shape ≡ Locate locate → is_refused (step_shape w shape).0 ≡ false → (step_shape w shape).0 ≡ Applied
shape_applied w Unknown locate is not = let never : ⊥ = cc in absurd never
shape_applied w BadLength locate is not = let never : ⊥ = cc in absurd never
shape_applied w (Known m) locate is not = applied_or_refused _ _ _ not

pub stock_applied : (day : List (List ℕ)) (n locate : ℕ) → part_at day n ≡ Locate locate → is_refused (outcome day n) ≡ false → outcome day n ≡ Applied
unfolding outcome
stock_applied day n locate is not = shape_applied (after day (n - 1)) (shape_of (payload_at day n)) locate is not

abbrev pub refuses : List (List ℕ) → ℕ → Bool
refuses day n = is_refused (outcome day n)

-- the numbers of messages, back from what became of them
pub numbers_back : (day : List (List ℕ)) (numbers : List ℕ) → map (λ (piece : RefusedMessage). piece.message) (map (refused_message day) numbers) ≡ numbers
numbers_back day [] = refl
numbers_back day (n ∷ numbers) = ap (λ (rest : List ℕ). n ∷ rest) (numbers_back day numbers)

pub others_are_applied : OthersAreApplied
others_are_applied day n locate some within is absent =
    let numbers : List ℕ = filter (refuses day) (range_with_len 1 (length day)) in
    let among : refuses day n ≡ true → Contains (map (λ (piece : RefusedMessage). piece.message) (refused_of day)) n =
    λ on. subst (λ (xs : List ℕ). Contains xs n) (sym (numbers_back day numbers)) (kept_there (refuses day) 1 (length day) n some (omega (arith, within)) on)
    in
    elim (cases_Bool (refuses day n)) [
      | inl on ↦ absurd (absent (among on))
      | inr off ↦ stock_applied day n locate is off
    ]
