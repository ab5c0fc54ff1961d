-- What is kept of a stock's messages, one message on, and the lines of a life by it.
use Rattle.std.proofs.Common.{◌≡◌, ℕ, ◌+◌, ◌<◌, ◌==◌, Bool, true, false, cond, List, [], ◌∷◌, ◌++◌, Option, Some, drop, get_or, length, map, take, refl, sym, ap, subst, ◌∙◌, append-nil, arith}
use Rattle.std.specs.BTreeMap.{BTreeMap}
use Rattle.std.specs.List.{flat_map}
use Rattle.std.proofs.lemmas.Bool.{eqb-true}
use Rattle.std.proofs.lemmas.List.{at_drop_more, length-append, map-append}
use Rattle.std.proofs.lemmas.List.Concat.{flat_map-append}
use Rattle.itch_layouts.specs.Shapes.{shape_of}
use Rattle.itch_table.specs.declared.order.Order.{Order}
use Rattle.itch_table.specs.declared.outcome.Outcome.{Outcome}
use Rattle.itch_table.specs.After.{after}
use Rattle.itch_table.specs.Projection.{only}
use Rattle.itch_table.specs.World.{World, is_spent, orders_of}
use Rattle.stock_machine.specs.StockRows.{StockMachine}
use Rattle.itch_readings.specs.Engines.{PrintsOrder}
use Rattle.itch_readings.specs.Naming.{NamesStock}
use Rattle.itch_readings.specs.OrderHistory.{AreKept, HavePayloads, first_by, kept_lines, kept_of}
use Rattle.itch_readings.specs.OrderLives.{earlier_reference, end_line, first_reference, life_line, life_text, living_order, replacement_by}
use Rattle.itch_readings.specs.OwnMessages.{OwnMessage, own_from, own_message}
use Rattle.itch_readings.specs.declared.naming.StockName.{StockName}
use Rattle.itch_readings.specs.declared.order_history.Kept.{Kept}
use Rattle.itch_readings.proofs.LinkedLives.{first-last}

abbrev payload_of : OwnMessage → List ℕ
payload_of message = message.payload

pub one_kept_more : (kept : List Kept) (payloads : List ℕ) (firsts firsts' : BTreeMap ℕ ℕ) (messages : List OwnMessage) → AreKept kept payloads firsts messages
    → (number : ℕ) (payload : List ℕ) (named : Option Order) (found : Outcome) (stock : StockMachine)
    → ((reference : ℕ) → first_by firsts' reference ≡ first_by firsts (earlier_reference (replacement_by found (shape_of payload)) reference))
    → AreKept (kept ++ kept_of (own_message number payload named found stock) ∷ []) (payloads ++ payload) firsts' (messages ++ own_message number payload named found stock ∷ [])
one_kept_more kept payloads firsts firsts' messages before number payload named found stock more =
    let message = own_message number payload named found stock in
    record {
      kept_are = ap (λ (l : List Kept). l ++ kept_of message ∷ []) before.kept_are ∙ sym (map-append kept_of messages (message ∷ []));
      payloads_are = ap (λ (l : List ℕ). l ++ payload) before.payloads_are
          ∙ ap (λ (l : List ℕ). flat_map payload_of messages ++ l) (sym (append-nil payload))
          ∙ sym (flat_map-append payload_of messages (message ∷ []));
      firsts_are = λ reference. more reference ∙ before.firsts_are (earlier_reference (replacement_by found (shape_of payload)) reference)
          ∙ sym (first-last messages message reference);
    }

-- ---- payloads, one after the other

take-first : (xs ys : List ℕ) → take (length xs) (xs ++ ys) ≡ xs
take-first [] ys = refl
take-first (x ∷ xs) ys = ap (λ (l : List ℕ). x ∷ l) (take-first xs ys)

drop-first : (xs ys : List ℕ) → drop (length xs) (xs ++ ys) ≡ ys
drop-first [] ys = refl
drop-first (x ∷ xs) ys = drop-first xs ys

have_payloads : (messages : List OwnMessage) → HavePayloads (map kept_of messages) (flat_map payload_of messages)
have_payloads [] = tt
have_payloads (m ∷ rest) = (
  omega (arith, length-append m.payload (flat_map payload_of rest)),
  subst (HavePayloads (map kept_of rest)) (sym (drop-first m.payload (flat_map payload_of rest))) (have_payloads rest),
)

lines_of : (first : ℕ → ℕ) (reference : ℕ) (messages : List OwnMessage)
    → kept_lines first reference (map kept_of messages) (flat_map payload_of messages)
    ≡ flat_map (λ m. life_line first reference m.number m.outcome m.payload) messages
lines_of first reference [] = refl
lines_of first reference (m ∷ rest) = λ i.
    life_line first reference m.number m.outcome (take-first m.payload (flat_map payload_of rest) i)
    ++ (ap (kept_lines first reference (map kept_of rest)) (drop-first m.payload (flat_map payload_of rest)) ∙ lines_of first reference rest) i

module _ (kept : List Kept) (payloads : List ℕ) (firsts : BTreeMap ℕ ℕ) (messages : List OwnMessage) (are : AreKept kept payloads firsts messages) where
  pub payloads_there : HavePayloads kept payloads
  payloads_there = subst (λ (l : List Kept). HavePayloads l payloads) (sym are.kept_are)
      (subst (HavePayloads (map kept_of messages)) (sym are.payloads_are) (have_payloads messages))

  pub lines_are : (reference : ℕ) → kept_lines (first_by firsts) reference kept payloads
      ≡ flat_map (λ m. life_line (first_by firsts) reference m.number m.outcome m.payload) messages
  lines_are reference =
      (λ i. kept_lines (first_by firsts) reference (are.kept_are i) (are.payloads_are i)) ∙ lines_of (first_by firsts) reference messages

  pub firsts_same : (λ reference. first_by firsts reference) ≡ first_reference messages
  firsts_same = λ i reference. are.firsts_are reference i

-- ---- the order that lives

not_true : (b : Bool) → (b ≡ true → ⊥) → b ≡ false
not_true true off = absurd (off refl)
not_true false off = refl

pub living_later : (first : ℕ → ℕ) (reference : ℕ) (orders : List Order) (i : ℕ) (d : Order) (found wanted : ℕ) → i < length orders
    → found ≡ first (get_or orders i d).reference → wanted ≡ first reference → (found ≡ wanted → ⊥)
    → living_order first reference (drop (i + 1) orders) ≡ living_order first reference (drop i orders)
living_later first reference orders i d found wanted within found_is wanted_is other =
    let off : (first (get_or orders i d).reference == first reference) ≡ false =
    not_true _ (λ on. other (found_is ∙ eqb-true _ _ on ∙ sym wanted_is)) in
    ap (λ (b : Bool). cond b (Some (get_or orders i d)) (living_order first reference (drop (i + 1) orders))) (sym off)
    ∙ sym (at_drop_more (living_order first reference) orders i d within)

-- ---- the text

module _ (orders_suffice : (w : World) (l : ℕ) → orders_of (only l w) l ≡ orders_of w l)
    (spent_suffice : (w : World) (l reference : ℕ) → is_spent (only l w) l reference ≡ is_spent w l reference) where
  pub order_printed : (day : List (List ℕ)) (name named : StockName) (n : ℕ) (stock : StockMachine) (kept : List Kept) (payloads : List ℕ) (firsts : BTreeMap ℕ ℕ) (reference : ℕ) (text : List ℕ)
      → named ≡ name → NamesStock day named n stock.locate → stock.world ≡ only stock.locate (after day (length day))
      → AreKept kept payloads firsts (own_from day stock.locate n)
      → text ≡ kept_lines (first_by firsts) reference kept payloads
      ++ end_line (living_order (first_by firsts) reference (orders_of stock.world stock.locate)) (is_spent stock.world stock.locate reference) reference
      → PrintsOrder name reference text day
  order_printed day name named n stock kept payloads firsts reference text same names world are text_is =
      let locate = stock.locate in
      let w = after day (length day) in
      let messages = own_from day locate n in
      let orders : orders_of stock.world locate ≡ orders_of w locate = ap (λ (v : World). orders_of v locate) world ∙ orders_suffice w locate in
      let spent : is_spent stock.world locate reference ≡ is_spent w locate reference = ap (λ (v : World). is_spent v locate reference) world ∙ spent_suffice w locate reference in
      record {
        message = n;
        locate = locate;
        named = subst (λ (s : StockName). NamesStock day s n locate) same names;
        printed = text_is
            ∙ (λ i. lines_are kept payloads firsts messages are reference i ++ end_line (living_order (first_by firsts) reference (orders i)) (spent i) reference)
            ∙ ap (λ (first : ℕ → ℕ). life_text first messages w locate reference) (firsts_same kept payloads firsts messages are);
      }
