-- What is returned of a file that two readers gave, the second of which has it once more.
use Rattle.std.proofs.Common.{◌≡◌, ℕ, true, false, List, ◌++◌, length, Some, None, sym, ap, subst, ◌∙◌, arith}
use Rattle.std.specs.Prelude.{Option, codes}
use Rattle.binaryfile.specs.declared.day.Limits.{Limits}
use Rattle.binaryfile.specs.declared.load.LoadFault.{LoadFault}
use Rattle.engine_rules.specs.FaultOrigins.{fault_of_load}
use Rattle.itch_readings.proofs.LongerDays.{after_more}
use Rattle.itch_readings.specs.declared.fault.StockFault.TheVariants.{NoStock, PastEnd, Changed, Engine}
use Rattle.itch_readings.specs.declared.naming.StockName.{StockName}
use Rattle.itch_show.specs.Parts.{Exceeds, GavePart}
use Rattle.itch_show.specs.Places.{is_past, position_of, up_to}
use Rattle.itch_show.specs.Shown.{IsKnownAt, IsShownAfter, PrintsShown, Refuses, StandsFor, StandsForNone, StartsWith}
use Rattle.itch_show.specs.declared.last_outcome.LastOutcome.{LastOutcome}
use Rattle.itch_show.specs.declared.place.Place.{Place}
use Rattle.itch_show.proofs.Outcomes.{starts}
use Rattle.itch_show.proofs.PlacesOfDays.{not_past, past, there}
use Rattle.itch_show.proofs.TwoReadings.{gave_nothing}
use Rattle.itch_table.specs.declared.outcome.Outcome.{Outcome}
use Rattle.itch_table.specs.After.{after, outcome_at}
use Rattle.itch_table.specs.World.{World}
use Rattle.stock_machine.specs.StockRows.{StockMachine}
use Rattle.stock_text.specs.Sessions.{position_words, stock_text}
use Rattle.stock_text.proofs.OwnRows.{stock_text-only}

module _ (name : StockName) (place : Place) (limits : Limits) (again : Option (List ℕ)) (day : List (List ℕ)) (number : ℕ)
    (number_is : number ≡ length day) where
  number_of : (all : List (List ℕ)) → up_to place all ≡ day → number ≡ length (up_to place all)
  number_of all cut = number_is ∙ ap length (sym cut)

  pub past_end : is_past place number ≡ true
      → GavePart again again (λ input file. up_to place file.payloads ≡ day → Refuses name place limits input file PastEnd)
  past_end on = gave_nothing again _
      (λ input file cut. past place file.payloads number (number_of file.payloads cut) on)

  pub no_stock : is_past place number ≡ false → StandsForNone day name
      → GavePart again again (λ input file. up_to place file.payloads ≡ day → Refuses name place limits input file NoStock)
  no_stock off none = gave_nothing again _ (λ input file cut. (
    there place file.payloads (not_past place file.payloads number (number_of file.payloads cut) off),
    subst (λ (front : List (List ℕ)). StandsForNone front name) (sym cut) none,
  ))

  module _ (later : Option (List ℕ)) where
    pub second_stopped : (fault : LoadFault) → GavePart again later (Exceeds limits (fault_of_load fault))
        → GavePart again later (λ input file. up_to place file.payloads ≡ day → Refuses name place limits input file (Engine (fault_of_load fault)))
    second_stopped fault part = record {
      given = part.given;
      gave = part.gave;
      each = λ input file are split begins cut. part.each input file are split begins;
    }

    starts_with : (all : List (List ℕ)) → up_to place all ≡ day → StartsWith day all
    starts_with all cut = subst (λ (front : List (List ℕ)). StartsWith front all) cut (starts place all)

    pub changed : GavePart again later (λ _ file. StartsWith day file.payloads → IsKnownAt file.payloads (length day) None)
        → GavePart again later (λ input file. up_to place file.payloads ≡ day → Refuses name place limits input file Changed)
    changed part = record {
      given = part.given;
      gave = part.gave;
      each = λ input file are split begins cut. part.each input file are split begins (starts_with file.payloads cut);
    }

    module _ (outcome : Option Outcome) (known : GavePart again later (λ _ file. StartsWith day file.payloads → IsKnownAt file.payloads (length day) (Some outcome))) where
      pub shown : (stock : StockMachine) (noted : LastOutcome) (text : List ℕ) → is_past place number ≡ false → IsShownAfter day name stock noted
          → text ≡ position_words number outcome ++ codes "\n" ++ stock_text stock.world stock.locate
          → GavePart again later (λ _ file. up_to place file.payloads ≡ day → PrintsShown name place text file.payloads)
      shown stock noted text off stands made = record {
        given = known.given;
        gave = known.gave;
        each = λ input file are split begins cut.
            let all = file.payloads in
            let fits = not_past place all number (number_of all cut) off in
            let at : number ≡ position_of place all = number_of all cut ∙ fits in
            let on = starts_with all cut in
            let found : outcome ≡ outcome_at all (position_of place all) =
            known.each input file are split begins on ∙ ap (outcome_at all) (sym number_is ∙ at) in
            let world : after day (length day) ≡ after all (position_of place all) =
            sym (after_more day on.0 (length day) (omega arith)) ∙ (λ i. after (sym on.1 i) ((sym number_is ∙ at) i)) in
            let lines : stock_text stock.world stock.locate ≡ stock_text (after all (position_of place all)) stock.locate =
            ap (λ (w : World). stock_text w stock.locate) stands.world ∙ stock_text-only (after day (length day)) stock.locate
            ∙ ap (λ (w : World). stock_text w stock.locate) world in
            record {
              there = there place all fits;
              locate = stock.locate;
              stands = subst (λ (d : List (List ℕ)). StandsFor d name stock.locate) (sym cut) stands.stands;
              printed = made ∙ (λ i. position_words (at i) (found i) ++ codes "\n" ++ lines i);
            };
      }
