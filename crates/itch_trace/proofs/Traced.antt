-- The trace of a day, one message on.
use Rattle.std.proofs.Common.{◌≡◌, ℕ, ◌+◌, ◌<◌, List, [], ◌∷◌, ◌++◌, length, get_or, Option, None, sym, ap, subst, ◌∙◌}
use Rattle.itch_table.specs.declared.outcome.Outcome.{Outcome}
use Rattle.itch_table.specs.declared.outcome.Part.TheVariants.{Locate, Nowhere}
use Rattle.itch_table.specs.After.{outcome}
use Rattle.itch_table.specs.Parts.{part}
use Rattle.itch_table.specs.Projection.{OthersStay, StepsAreOwn}
use Rattle.itch_table.proofs.StockDays.{outcomes_stay_fixed}
use Rattle.stock_machine.specs.StockRows.{StockMachine}
use Rattle.itch_readings.specs.AllStocks.{NotesOne, machine_in}
use Rattle.itch_readings.specs.OwnMessages.{OwnMessage, next_message, own_at}
use Rattle.itch_readings.proofs.AllTaken.{all_own, all_pass, machine_there}
use Rattle.itch_readings.proofs.LongerDays.{payload_last}
use Rattle.itch_readings.proofs.OwnMore.{OrdersAreOwn, message_next}
use Rattle.itch_trace.specs.Made.{AreMade, Anything, HasTraced, MadeLines}
use Rattle.itch_trace.specs.Messages.{message_by, messages_of, other_message}
use Rattle.itch_trace.proofs.MessagesMore.{messages_more}

module _ (sent : MadeLines) (day : List (List ℕ)) (payload : List ℕ) (machines : List (Option StockMachine)) (count : ℕ) (made more : MadeLines)
    (before : HasTraced sent day machines count made) where
  whole : List (List ℕ)
  whole = day ++ payload ∷ []

  lines_so : (m : OwnMessage) → m ≡ message_by (day ++ payload ∷ []) (length day + 1) (part payload) → AreMade sent more (messages_of day ++ m ∷ []) → AreMade sent more (messages_of (day ++ payload ∷ []))
  lines_so m is = subst (AreMade sent more) (ap (λ (m : OwnMessage). messages_of day ++ m ∷ []) is ∙ sym (messages_more day payload))

  -- one of no stock
  pub other_traced : OthersStay → (fixed : Outcome) → Nowhere fixed ≡ part payload
      → ((sent : MadeLines) (messages : List OwnMessage) → AreMade sent made messages → AreMade sent more (messages ++ other_message (count + 1) payload fixed ∷ []))
      → HasTraced sent (day ++ payload ∷ []) machines (count + 1) more
  other_traced others fixed is noted =
      let all = day ++ payload ∷ [] in
      let last : fixed ≡ outcome all (length day + 1) = sym (outcomes_stay_fixed all (length day + 1) fixed (ap part (payload_last day payload) ∙ sym is)) in
      let same : other_message (count + 1) payload fixed ≡ message_by all (length day + 1) (part payload) =
      (λ i. other_message (before.took.counted i + 1) (sym (payload_last day payload) i) (last i)) ∙ ap (message_by all (length day + 1)) is in
      record {
        took = all_pass Anything tt day payload machines count tt before.took others fixed is;
        lines = lines_so (other_message (count + 1) payload fixed) same (noted sent (messages_of day) before.lines);
      }

  -- a stock's
  module _ (locate : ℕ) (low : locate < 0x1_0000) where
    pub own_traced : StepsAreOwn → OthersStay → OrdersAreOwn → Locate locate ≡ part payload
        → (new : List (Option StockMachine)) → NotesOne AreMade (count + 1) payload locate machines new made more
        → HasTraced sent (day ++ payload ∷ []) new (count + 1) more
    own_traced own others orders is new took =
        let all = day ++ payload ∷ [] in
        let there = machine_there day locate (get_or machines locate None) (before.took.each locate None low) in
        let stock = machine_in locate (get_or machines locate None) in
        let at : part payload ≡ Locate stock.locate = sym is ∙ ap Locate (sym there.own) in
        let next : next_message (count + 1) payload stock ≡ own_at all stock.locate (length day + 1) =
        ap (λ (k : ℕ). next_message (k + 1) payload stock) before.took.counted ∙ message_next own orders day payload stock there.world at in
        let same : next_message (count + 1) payload stock ≡ message_by all (length day + 1) (part payload) =
        next ∙ ap (message_by all (length day + 1)) (sym at) in
        let quiet : NotesOne Anything (count + 1) payload locate machines new tt tt =
        record {
          next = took.next;
          new_is = took.new_is;
          notes_next = record { locate = took.notes_next.locate; world = took.notes_next.world; steps = took.notes_next.steps; noted = λ _ _ _. tt };
        } in
        record {
          took = all_own Anything tt day payload machines count tt before.took locate low own others orders is new tt quiet;
          lines = lines_so (next_message (count + 1) payload stock) same (took.notes_next.noted sent (messages_of day) before.lines);
        }
