-- What a position shows.
use Rattle.std.proofs.Common.{◌≡◌, ℕ, zero, suc, ◌+◌, ◌-◌, ◌^◌, ◌<◌, ◌≤◌, List, [], length, Bool, true, false, get_or, refl, sym, ap, ◌∙◌, arith}
use Rattle.std.specs.Prelude.{Option, Some, None}
use Rattle.itch_layouts.specs.Shapes.{shape_of}
use Rattle.itch_layouts.specs.declared.message.Msg.TheVariants.{System}
use Rattle.itch_layouts.specs.declared.shape.Shape.{Shape}
use Rattle.itch_layouts.specs.declared.shape.Shape.TheVariants.{Known}
use Rattle.itch_table.specs.declared.outcome.Outcome.{Outcome}
use Rattle.itch_table.specs.declared.outcome.Part.TheVariants.{Locate, Nowhere}
use Rattle.itch_table.specs.After.{after, outcome, outcome_at}
use Rattle.itch_table.specs.Parts.{part, part_of_shape}
use Rattle.itch_table.specs.Projection.{event_with, payload_at}
use Rattle.itch_table.specs.Table.{step}
use Rattle.itch_table.specs.World.{World}
use Rattle.itch_table.proofs.Days.{after-next, after-none}
use Rattle.itch_table.proofs.NoStock.{system_sets_event}
use Rattle.itch_table.proofs.StockDays.{outcomes_stay_fixed}
use Rattle.stock_machine.specs.StockRows.{StockMachine}
use Rattle.day_core.specs.Owners.{machine_of}
use Rattle.day_core.proofs.MachineSteps.{machine_stepped, steps_most}
use Rattle.debugger.specs.Finding.{IsLatest}
use Rattle.debugger.specs.Sessions.{is_system}

-- ---- the event

-- a message of a stock is no system event message
pub of_stock_no_system : (shape : Shape) (locate : ℕ) → part_of_shape shape ≡ Locate locate → is_system shape ≡ false
of_stock_no_system (Known (System head m)) locate own = let never : ⊥ = cc in absurd never
of_stock_no_system shape locate own = refl

event_stays : (shape : Shape) (event : Option ℕ) → is_system shape ≡ false → event_with shape event ≡ event
event_stays (Known (System head m)) event off = let never : ⊥ = cc in absurd never
event_stays shape event off = refl

event_set : (shape : Shape) (a b : Option ℕ) → is_system shape ≡ true → event_with shape a ≡ event_with shape b
event_set (Known (System head m)) a b on = refl
event_set shape a b on = let never : ⊥ = cc in absurd never

module _ (day : List (List ℕ)) where
  event_next : (n : ℕ) → (after day (n + 1)).event ≡ event_with (shape_of (payload_at day (n + 1))) (after day n).event
  event_next n =
      let before : n + 1 - 1 ≡ n = omega arith in
      ap (λ (w : World). w.event) (after-next day n) ∙ system_sets_event (after day n) (get_or day n [])
      ∙ ap (λ (k : ℕ). event_with (shape_of (get_or day k [])) (after day n).event) (sym before)

  abbrev pub is_event : ℕ → Bool
  is_event n = is_system (shape_of (payload_at day n))

  -- no system event message comes
  event_same : (from more : ℕ) → ((k : ℕ) → from < k → k ≤ from + more → is_event k ≡ false) → (after day (from + more)).event ≡ (after day from).event
  event_same from zero none = let e : from + 0 ≡ from = omega arith in ap (λ (n : ℕ). (after day n).event) e
  event_same from (suc more) none =
      let e : from + more + 1 ≡ from + suc more = omega arith in
      let off = none (from + more + 1) (omega arith) (omega arith) in
      ap (λ (n : ℕ). (after day n).event) (sym e) ∙ event_next (from + more) ∙ event_stays _ _ off
      ∙ event_same from more (λ k low high. none k low (omega arith))

  -- the event of the latest system event message
  abbrev pub event_of : Option ℕ → Option ℕ
  event_of None = None
  event_of (Some m) = event_with (shape_of (payload_at day m)) None

  pub event_latest : (n : ℕ) (o : Option ℕ) → IsLatest is_event n o → event_of o ≡ (after day n).event
  event_latest n None latest =
      let e : 0 + n ≡ n = omega arith in
      sym (ap (λ (k : ℕ). (after day k).event) (sym e) ∙ event_same 0 n (λ k low high. latest k low (omega arith)) ∙ ap (λ (w : World). w.event) (after-none day))
  event_latest n (Some m) latest =
      let e : m + (n - m) ≡ n = omega (arith, latest.1) in
      let one : m - 1 + 1 ≡ m = omega (arith, latest.0) in
      sym (
      ap (λ (k : ℕ). (after day k).event) (sym e)
      ∙ event_same m (n - m) (λ k low high. latest.3 k low (omega arith))
      ∙ ap (λ (k : ℕ). (after day k).event) (sym one) ∙ event_next (m - 1)
      ∙ ap (λ (k : ℕ). event_with (shape_of (payload_at day k)) (after day (m - 1)).event) one
      ∙ event_set _ _ None latest.2
      )

  -- ---- the outcome

  outcome_some : (n : ℕ) → 1 ≤ n → Some (outcome day n) ≡ outcome_at day n
  outcome_some zero some = absurd (omega arith)
  outcome_some (suc n) some = refl

  module _ (n : ℕ) (some : 1 ≤ n) (payload : List ℕ) (here : payload ≡ payload_at day n) where
    pub outcome_fixed : (o : Outcome) → part payload ≡ Nowhere o → Some o ≡ outcome_at day n
    outcome_fixed o is = ap Some (sym (outcomes_stay_fixed day n o (ap part (sym here) ∙ is))) ∙ outcome_some n some

    module _ (locate : ℕ) (own : part payload ≡ Locate locate) (m : StockMachine) (is : m ≡ machine_of day locate (n - 1)) where
      pub outcome_takes : part payload ≡ Locate m.locate
      outcome_takes = own ∙ ap Locate (sym (ap (λ (k : StockMachine). k.locate) is))

      pub outcome_few : n ≤ length day → n < 2 ^ 32 → m.steps < 2 ^ 32 - 1
      outcome_few le fits =
          omega (arith, some, fits, ap (λ (k : StockMachine). k.steps) is, steps_most day locate (n - 1))

      pub outcome_own : (then : StockMachine) (o : Outcome) → then.locate ≡ m.locate → then.steps ≡ m.steps + 1 → (o, then.world) ≡ step m.world payload → Some o ≡ outcome_at day n
      outcome_own then o code steps gives =
          ap Some (machine_stepped day locate n m then o some (ap part (sym here) ∙ own) is code steps (gives ∙ ap (step m.world) here)).1
          ∙ outcome_some n some
