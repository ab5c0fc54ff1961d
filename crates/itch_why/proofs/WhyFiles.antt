-- What is returned of a message of a file, of which the first reading is known.
use Rattle.std.proofs.Common.{◌≡◌, ℕ, ◌-◌, ◌<◌, ◌≤◌, List, length, take, drop, Some, None, sym, ap, ◌∙◌, arith}
use Rattle.std.specs.Prelude.{Option, Vec}
use Rattle.std.proofs.lemmas.List.{length-take, take-append-drop}
use Rattle.binaryfile.specs.declared.day.Limits.{Limits}
use Rattle.binaryfile.specs.declared.load.LoadFault.{LoadFault}
use Rattle.engine_rules.specs.FaultOrigins.{fault_of_load}
use Rattle.itch_layouts.specs.Shapes.{shape_of}
use Rattle.itch_readings.proofs.LongerDays.{payload_more}
use Rattle.itch_readings.specs.Noting.{Noting}
use Rattle.itch_readings.specs.OwnMessages.{own_from}
use Rattle.itch_readings.specs.declared.fault.StockFault.TheVariants.{PastEnd, Changed, Engine}
use Rattle.itch_show.specs.Before.{IsBefore}
use Rattle.itch_show.specs.Parts.{Exceeds, GavePart}
use Rattle.itch_show.specs.Places.{up_to}
use Rattle.itch_show.specs.declared.place.Place.TheVariants.{After}
use Rattle.itch_show.proofs.Outcomes.{after_taken}
use Rattle.itch_show.proofs.TwoReadings.{gave_nothing}
use Rattle.itch_table.specs.declared.outcome.Outcome.{Outcome}
use Rattle.itch_table.specs.declared.outcome.Part.{Part}
use Rattle.itch_table.specs.declared.outcome.Part.TheVariants.{Locate, Nowhere}
use Rattle.itch_table.specs.After.{after, outcome}
use Rattle.itch_table.specs.Parts.{part}
use Rattle.itch_table.specs.Projection.{StepsAreOwn, only, payload_at}
use Rattle.itch_table.specs.Table.{step}
use Rattle.itch_table.specs.World.{World}
use Rattle.itch_table.proofs.StockDays.{outcomes_stay_fixed}
use Rattle.stock_machine.specs.StockRows.{StockMachine}
use Rattle.itch_why.proofs.OwnLines.{own_lines-only}
use Rattle.itch_why.specs.Why.{IsOwnText, IsReadUpTo, PrintsWhy, RefusesWhy, earlier_lines, message_lines, nothing_before, own_lines, why_by, why_text}
use Rattle.itch_why.specs.declared.earlier.EarlierLines.{EarlierLines}

-- the lines of the earlier messages
abbrev pub EarlierOf : {A : Type 0} → Noting (EarlierLines A)
EarlierOf first now messages = (now.shape ≡ first.shape) × (now.text.items ≡ earlier_lines first.shape messages)

-- the text of a message of a stock, by the stock's machine before it
pub own_text_is : {A : Type 0} (first earlier : EarlierLines A) (start now : Option (List ℕ)) (locate n : ℕ) (payload : List ℕ) (stock : StockMachine) (text : Vec ℕ A)
    → StepsAreOwn → 0 < n → part payload ≡ Locate locate → first.shape ≡ shape_of payload
    → GavePart start now (IsBefore EarlierOf first locate n (Some (stock, earlier)))
    → text.items ≡ own_lines stock.world stock.locate earlier.text.items n (step stock.world payload).0 payload
    → GavePart start now (IsOwnText n payload (Some text))
unfolding outcome
own_text_is first earlier start now locate n payload stock text own some at shape gave made = record {
  given = gave.given;
  gave = gave.gave;
  each = λ input file are split begins within there.
      let day = file.payloads in
      let w : World = after day (n - 1) in
      let taken = (gave.each input file are split begins).1 in
      let rows : stock.world ≡ only locate w = taken.world ∙ ap (only locate) (after_taken day (n - 1) (omega (arith, within))) in
      let found : (step stock.world payload).0 ≡ outcome day n =
      ap (λ (v : World). (step v payload).0) rows ∙ ap (λ (r : Outcome × World). r.0) (own w payload locate at) ∙ ap (λ (p : List ℕ). (step w p).0) there in
      let lines : earlier.text.items ≡ earlier_lines (shape_of (payload_at day n)) (own_from (take (n - 1) day) locate 1) =
      taken.noted.1 ∙ ap (λ s. earlier_lines s (own_from (take (n - 1) day) locate 1)) (shape ∙ ap shape_of there) in
      let is : part (payload_at day n) ≡ Locate locate = ap part (sym there) ∙ at in
      made ∙ (λ i. own_lines (rows i) (taken.locate_is i) (lines i) n (found i) (there i))
      ∙ own_lines-only w locate (earlier_lines (shape_of (payload_at day n)) (own_from (take (n - 1) day) locate 1)) n (outcome day n) (payload_at day n)
      ∙ ap (λ (p : Part). why_by p day n) (sym is);
}

-- none where the file hasn't the message
pub none_is : {A : Type 0} (first : EarlierLines A) (start now : Option (List ℕ)) (locate n : ℕ) (payload : List ℕ)
    → GavePart start now (IsBefore EarlierOf first locate n None) → GavePart start now (IsOwnText {A = A} n payload None)
none_is first start now locate n payload gave =
    record { given = gave.given; gave = gave.gave; each = λ input file are split begins within. omega (arith, within, gave.each input file are split begins) }

module _ (n : ℕ) (limits : Limits) (again : Option (List ℕ)) (day : List (List ℕ)) (number : ℕ) (payload : List ℕ)
    (read : IsReadUpTo day n number payload) where
  pub past_end : (0 < n → number < n)
      → GavePart again again (λ input file. up_to (After n) file.payloads ≡ day → RefusesWhy n limits input file PastEnd)
  past_end few = gave_nothing again _ (λ input file cut some.
      omega (arith, few some, read.number_is, ap length cut, length-take n file.payloads))

  pub second_stopped : (later : Option (List ℕ)) (fault : LoadFault) → GavePart again later (Exceeds limits (fault_of_load fault))
      → GavePart again later (λ input file. up_to (After n) file.payloads ≡ day → RefusesWhy n limits input file (Engine (fault_of_load fault)))
  second_stopped later fault stopped = record {
    given = stopped.given;
    gave = stopped.gave;
    each = λ input file are split begins cut. stopped.each input file are split begins;
  }

  module _ (some : 0 < n) (enough : n ≤ number) where
    same : number ≡ n
    same = omega (arith, enough, read.number_is, read.comes_up)

    has : (file : List (List ℕ)) → up_to (After n) file ≡ day → n ≤ length file
    has file cut = omega (arith, enough, read.number_is, ap length cut, length-take n file)

    there : (file : List (List ℕ)) → up_to (After n) file ≡ day → payload ≡ payload_at file n
    there file cut =
        read.payload_is ∙ (λ i. payload_at (sym cut i) (sym read.number_is i)) ∙ ap (payload_at (take n file)) same
        ∙ sym (payload_more (take n file) (drop n file) n some (omega (arith, has file cut, length-take n file)))
        ∙ ap (λ (all : List (List ℕ)). payload_at all n) (take-append-drop n file)

    pub of_no_stock : (fixed : Outcome) (text : List ℕ) → part payload ≡ Nowhere fixed → text ≡ message_lines number fixed payload nothing_before
        → GavePart again again (λ _ file. up_to (After n) file.payloads ≡ day → PrintsWhy n text file.payloads)
    of_no_stock fixed text none made = gave_nothing again _ (λ input file cut.
        let all = file.payloads in
        let is : part (payload_at all n) ≡ Nowhere fixed = ap part (sym (there all cut)) ∙ none in
        record {
          some = some;
          within = has all cut;
          printed = made ∙ (λ i. message_lines (same i) (sym (outcomes_stay_fixed all n fixed is) i) (there all cut i) nothing_before)
              ∙ ap (λ (p : Part). why_by p all n) (sym is);
        })

    module _ (later : Option (List ℕ)) where
      pub changed : (A : Type 0) → GavePart again later (IsOwnText {A = A} number payload None)
          → GavePart again later (λ input file. up_to (After n) file.payloads ≡ day → RefusesWhy n limits input file Changed)
      changed A part = record {
        given = part.given;
        gave = part.gave;
        each = λ input file are split begins cut. part.each input file are split begins (omega (arith, same, has file.payloads cut));
      }

      pub of_stock : {A : Type 0} (text : Vec ℕ A) → GavePart again later (IsOwnText number payload (Some text))
          → GavePart again later (λ _ file. up_to (After n) file.payloads ≡ day → PrintsWhy n text.items file.payloads)
      of_stock text part = record {
        given = part.given;
        gave = part.gave;
        each = λ input file are split begins cut.
            let all = file.payloads in
            record {
              some = some;
              within = has all cut;
              printed = part.each input file are split begins (omega (arith, same, has all cut)) (there all cut ∙ ap (payload_at all) (sym same))
                  ∙ ap (why_text all) same;
            };
      }
