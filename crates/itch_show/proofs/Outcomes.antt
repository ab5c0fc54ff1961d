-- The outcome of the last message before a place, of a day that may go on after it.
use Rattle.std.proofs.Common.{◌≡◌, ℕ, zero, suc, ◌-◌, ◌<◌, ◌≤◌, List, [], ◌++◌, length, take, drop, Some, None, refl, sym, ap, ◌∙◌, arith}
use Rattle.std.specs.Prelude.{Option}
use Rattle.std.proofs.KnownBytes.{Consumes-nil}
use Rattle.std.proofs.lemmas.List.{length-append, length-take-le, take-append-drop}
use Rattle.itch_readings.proofs.LongerDays.{after_more, outcome_more, payload_more}
use Rattle.itch_readings.specs.Noting.{Noting}
use Rattle.itch_show.specs.Before.{IsBefore}
use Rattle.itch_show.specs.Parts.{GavePart}
use Rattle.itch_show.specs.Places.{position_of, up_to}
use Rattle.itch_show.specs.Shown.{HasOutcome, IsKnownAt, IsLastOf, StartsWith}
use Rattle.itch_show.specs.declared.last_outcome.LastOutcome.{LastOutcome}
use Rattle.itch_show.specs.declared.place.Place.{Place}
use Rattle.itch_table.specs.declared.outcome.Outcome.{Outcome}
use Rattle.itch_table.specs.declared.outcome.Part.TheVariants.{Locate as OfStock, Nowhere}
use Rattle.itch_table.specs.After.{after, outcome, outcome_at}
use Rattle.itch_table.specs.Parts.{part}
use Rattle.itch_table.specs.Projection.{StepsAreOwn, only, payload_at}
use Rattle.itch_table.specs.Table.{step}
use Rattle.itch_table.specs.World.{World}
use Rattle.itch_table.proofs.StockDays.{outcomes_stay_fixed}
use Rattle.stock_machine.specs.StockRows.{StockMachine}

-- a day begins with its messages before a place
pub starts : (place : Place) (day : List (List ℕ)) → StartsWith (up_to place day) day
starts place day = (drop (position_of place day) day, sym (take-append-drop (position_of place day) day))

at_some : (day : List (List ℕ)) (n : ℕ) → 0 < n → outcome_at day n ≡ Some (outcome day n)
at_some day zero some = absurd (omega (arith, some))
at_some day (suc n) some = refl

-- the outcome of the last message of a day is known of each day that begins so
goes_on : (day file : List (List ℕ)) (found : Outcome) → 0 < length day → found ≡ outcome day (length day) → StartsWith day file
    → IsKnownAt file (length day) (Some (Some found))
goes_on day file found some is starts =
    ap Some (is ∙ sym (outcome_more day starts.0 (length day) some (omega arith)) ∙ ap (λ (d : List (List ℕ)). outcome d (length day)) (sym starts.1))
    ∙ sym (at_some file (length day) some)

module _ (start : Option (List ℕ)) (day : List (List ℕ)) where
  pub own_known : (number : ℕ) (noted : LastOutcome) → number ≡ length day → ¬ (number ≡ 0) → IsLastOf day noted → noted.number ≡ number
      → GavePart start start (λ _ file. StartsWith day file.payloads → IsKnownAt file.payloads (length day) (Some (Some noted.outcome)))
  own_known number noted is some last same = record {
    given = [];
    gave = Consumes-nil start;
    each = λ input file are split begins starts.
        goes_on day file.payloads noted.outcome (omega (arith, is, some)) ((last (omega (arith, same, some))).1 ∙ ap (outcome day) (same ∙ is)) starts;
  }

  pub fixed_known : (number : ℕ) (payload : List ℕ) (fixed : Outcome) → number ≡ length day → ¬ (number ≡ 0) → payload ≡ payload_at day (length day) → part payload ≡ Nowhere fixed
      → GavePart start start (λ _ file. StartsWith day file.payloads → IsKnownAt file.payloads (length day) (Some (Some fixed)))
  fixed_known number payload fixed is some at none = record {
    given = [];
    gave = Consumes-nil start;
    each = λ input file are split begins starts.
        goes_on day file.payloads fixed (omega (arith, is, some)) (sym (outcomes_stay_fixed day (length day) fixed (ap part (sym at) ∙ none))) starts;
  }

  module _ (now : Option (List ℕ)) (number : ℕ) (payload : List ℕ) (is : number ≡ length day) (some : ¬ (number ≡ 0)) (at : payload ≡ payload_at day (length day)) where
    within : (file : List (List ℕ)) → StartsWith day file → number ≤ length file
    within file starts = omega (arith, is, ap length starts.1, length-append day starts.0)

    pub again_known : (found : Outcome) → GavePart start now (HasOutcome number payload (Some found))
        → GavePart start now (λ _ file. StartsWith day file.payloads → IsKnownAt file.payloads (length day) (Some (Some found)))
    again_known found part = record {
      given = part.given;
      gave = part.gave;
      each = λ input file are split begins starts.
          let there : payload ≡ payload_at file.payloads number =
          at ∙ sym (payload_more day starts.0 (length day) (omega (arith, is, some)) (omega arith))
          ∙ (λ i. payload_at (sym starts.1 i) (sym is i)) in
          ap Some (part.each input file are split begins (within file.payloads starts) there ∙ ap (outcome file.payloads) is)
          ∙ sym (at_some file.payloads (length day) (omega (arith, is, some)));
    }

    pub again_changed : GavePart start now (HasOutcome number payload None)
        → GavePart start now (λ _ file. StartsWith day file.payloads → IsKnownAt file.payloads (length day) None)
    again_changed part = record {
      given = part.given;
      gave = part.gave;
      each = λ input file are split begins starts. part.each input file are split begins (within file.payloads starts);
    }

-- a day's rows after its first messages
pub after_taken : (day : List (List ℕ)) (n : ℕ) → n ≤ length day → after (take n day) (length (take n day)) ≡ after day n
after_taken day n within =
    let long : length (take n day) ≡ n = length-take-le n day within in
    sym (after_more (take n day) (drop n day) (length (take n day)) (omega arith))
    ∙ (λ i. after (take-append-drop n day i) (long i))

-- a file of too few messages hasn't the message
pub none_before : {N : Type 0} (AreOf : Noting N) (first : N) (start now : Option (List ℕ)) (locate n : ℕ) (payload : List ℕ)
    → GavePart start now (IsBefore AreOf first locate n None) → GavePart start now (HasOutcome n payload None)
none_before AreOf first start now locate n payload part = record {
  given = part.given;
  gave = part.gave;
  each = λ input file are split begins within. omega (arith, within, part.each input file are split begins);
}

-- the machine of a message's stock tells its outcome
pub step_before : {N : Type 0} (AreOf : Noting N) (first : N) (start now : Option (List ℕ)) (locate n : ℕ) (payload : List ℕ) (stock : StockMachine) (notes : N)
    (found : Outcome) (next : World) → StepsAreOwn → 0 < n → part payload ≡ OfStock locate → GavePart start now (IsBefore AreOf first locate n (Some (stock, notes)))
    → (found, next) ≡ step stock.world payload → GavePart start now (HasOutcome n payload (Some found))
unfolding outcome
step_before AreOf first start now locate n payload stock notes found next own some at part stepped = record {
  given = part.given;
  gave = part.gave;
  each = λ input file are split begins within there.
      let taken = (part.each input file are split begins).1 in
      let rows : stock.world ≡ only locate (after file.payloads (n - 1)) =
      taken.world ∙ ap (only locate) (after_taken file.payloads (n - 1) (omega (arith, within))) in
      ap (λ (r : Outcome × World). r.0) (stepped ∙ ap (λ (w : World). step w payload) rows ∙ own (after file.payloads (n - 1)) payload locate at)
      ∙ ap (λ (p : List ℕ). (step (after file.payloads (n - 1)) p).0) there;
}
