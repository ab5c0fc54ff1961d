-- The lines of a stock's best bid and ask, by its messages.
use Rattle.std.proofs.Common.{◌≡◌, ℕ, ◌+◌, ◌-◌, List, [], ◌∷◌, ◌++◌, Option, length, map, refl, sym, ap, subst, ◌∙◌, append-nil}
use Rattle.std.proofs.lemmas.List.{append_assoc, map-append}
use Rattle.itch_table.specs.declared.order.Top.{Top}
use Rattle.itch_table.specs.declared.order.Order.{Order}
use Rattle.itch_table.specs.declared.outcome.Outcome.{Outcome}
use Rattle.itch_table.specs.After.{after}
use Rattle.itch_table.specs.Levels.{top}
use Rattle.itch_table.specs.Projection.{only, payload_at}
use Rattle.itch_table.specs.Shows.{no_top, top_after}
use Rattle.itch_table.specs.World.{World, orders_of}
use Rattle.stock_machine.specs.StockRows.{StockMachine}
use Rattle.itch_readings.specs.Engines.{PrintsTops}
use Rattle.itch_readings.specs.Naming.{NamesStock}
use Rattle.itch_readings.specs.OwnMessages.{OwnMessage, own_at, own_from, own_message, own_numbers}
use Rattle.itch_readings.specs.TopLines.{AreLines, field_names, last_top, moment_lines, moment_of, shown_line, tops_text}
use Rattle.itch_readings.specs.Tops.{moment, time_of}
use Rattle.itch_readings.specs.declared.moments.Moment.{Moment}
use Rattle.itch_readings.specs.declared.naming.StockName.{StockName}
use Rattle.itch_readings.specs.declared.top_lines.Selection.{Selection}

-- ---- one line more

last_more : (before : Top) (moments : List Moment) (at : Moment) → last_top before (moments ++ at ∷ []) ≡ at.top
last_more before [] at = refl
last_more before (m ∷ rest) at = last_more m.top rest at

lines_more : (selection : Selection) (before : Top) (moments : List Moment) (at : Moment)
    → moment_lines selection before (moments ++ at ∷ []) ≡ moment_lines selection before moments ++ shown_line selection (last_top before moments) at
lines_more selection before [] at = append-nil (shown_line selection before at)
lines_more selection before (m ∷ rest) at =
    ap (λ (l : List ℕ). shown_line selection before m ++ l) (lines_more selection m.top rest at)
    ∙ sym (append_assoc (shown_line selection before m) (moment_lines selection m.top rest) (shown_line selection (last_top m.top rest) at))

text_more : (selection : Selection) (moments : List Moment) (at : Moment)
    → tops_text selection (moments ++ at ∷ []) ≡ tops_text selection moments ++ shown_line selection (last_top no_top moments) at
text_more selection moments at =
    ap (λ (l : List ℕ). field_names ++ l) (lines_more selection no_top moments at)
    ∙ sym (append_assoc field_names (moment_lines selection no_top moments) (shown_line selection (last_top no_top moments) at))

pub one_line_more : (selection chosen : Selection) (before : Top) (text : List ℕ) (messages : List OwnMessage) → AreLines selection chosen before text messages
    → (number : ℕ) (payload : List ℕ) (named : Option Order) (found : Outcome) (stock : StockMachine) (shown : Top) → shown ≡ top (orders_of stock.world stock.locate)
    → (text' : List ℕ) → text' ≡ text ++ shown_line chosen before (record { message = number; time = time_of payload; top = shown })
    → AreLines selection chosen shown text' (messages ++ own_message number payload named found stock ∷ [])
one_line_more selection chosen before text messages lines number payload named found stock shown shown_is text' added =
    let at = moment_of (own_message number payload named found stock) in
    let here : record { message = number; time = time_of payload; top = shown } ≡ at =
    ap (λ (t : Top). record { message = number; time = time_of payload; top = t }) shown_is in
    let all : map moment_of (messages ++ own_message number payload named found stock ∷ []) ≡ map moment_of messages ++ at ∷ [] =
    map-append moment_of messages (own_message number payload named found stock ∷ []) in
    record {
      chosen_is = lines.chosen_is;
      last = shown_is ∙ sym (last_more no_top (map moment_of messages) at) ∙ ap (last_top no_top) (sym all);
      lines = added ∙ (λ i. lines.lines i ++ shown_line (lines.chosen_is i) (lines.last i) (here i))
          ∙ sym (text_more selection (map moment_of messages) at) ∙ ap (tops_text selection) (sym all);
    }

-- ---- the moments of a stock's messages

module _ (suffice : (w : World) (l : ℕ) → orders_of (only l w) l ≡ orders_of w l) where
  own_moment : (day : List (List ℕ)) (locate n : ℕ) → moment_of (own_at day locate n) ≡ moment day locate n
  unfolding top_after
  own_moment day locate n =
      ap (λ (orders : List Order). record { message = n; time = time_of (payload_at day n); top = top orders }) (suffice (after day n) locate)

  moments_at : (day : List (List ℕ)) (locate : ℕ) (numbers : List ℕ) → map moment_of (map (own_at day locate) numbers) ≡ map (moment day locate) numbers
  moments_at day locate [] = refl
  moments_at day locate (n ∷ rest) = λ i. own_moment day locate n i ∷ moments_at day locate rest i

  -- what was noted of a stock are its lines
  pub tops_printed : (day : List (List ℕ)) (name named : StockName) (selection selected chosen : Selection) (before : Top) (text printed : List ℕ)
      → named ≡ name → selected ≡ selection → printed ≡ text
      → (n : ℕ) × (locate : ℕ) × NamesStock day named n locate × AreLines selected chosen before text (own_from day locate n)
      → PrintsTops name selection printed day
  tops_printed day name named selection selected chosen before text printed same chose text_is of = record {
    message = of.0;
    locate = of.1;
    named = subst (λ (s : StockName). NamesStock day s of.0 of.1) same of.2;
    printed = text_is ∙ of.3.lines ∙ (λ i. tops_text (chose i) (moments_at day of.1 (own_numbers day of.1 of.0 (length day + 1 - of.0)) i));
  }
