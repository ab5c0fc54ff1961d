-- The messages of a stock, one message on.
use Rattle.std.proofs.Common.{◌≡◌, ◌≢◌, ℕ, zero, suc, ◌+◌, ◌-◌, ◌<◌, ◌≤◌, Bool, true, false, cond, List, [], ◌∷◌, ◌++◌, length, map, refl, sym, ap, subst, ◌∙◌, arith, append-nil}
use Rattle.itch_layouts.specs.Shapes.{shape_of}
use Rattle.itch_table.specs.declared.outcome.Outcome.{Outcome}
use Rattle.itch_table.specs.declared.outcome.Part.TheVariants.{Locate as OfStock}
use Rattle.itch_table.specs.After.{after}
use Rattle.itch_table.specs.Parts.{part}
use Rattle.itch_table.specs.Projection.{OthersStay, StepsAreOwn, is_of_stock, only, payload_at}
use Rattle.itch_table.specs.Table.{step}
use Rattle.itch_table.specs.World.{World, order}
use Rattle.stock_machine.specs.StockRows.{StockMachine}
use Rattle.itch_readings.specs.Noting.{HasNoted, NotesNext, Noting}
use Rattle.itch_readings.specs.OwnMessages.{OwnMessage, first_order, next_message, order_named, own_at, own_from, own_numbers, references_by}
use Rattle.itch_readings.proofs.OwnNumbers.{own_more}
use Rattle.itch_readings.proofs.LongerDays.{after_last, after_more, after_whole, longer, outcome_last, outcome_more, payload_last, payload_more}

pub own_at_more : (day more : List (List ℕ)) (locate n : ℕ) → 0 < n → n ≤ length day → own_at (day ++ more) locate n ≡ own_at day locate n
own_at_more day more locate n some within = λ i. record {
  locate = locate;
  number = n;
  payload = payload_more day more n some within i;
  named = order_named (after_more day more (n - 1) (omega (arith, within)) i) locate (payload_more day more n some within i);
  outcome = outcome_more day more n some within i;
  rows = only locate (after_more day more n within i);
}

own_before : (day more : List (List ℕ)) (locate n count : ℕ) → 0 < n → n + count ≤ length day + 1
    → map (own_at (day ++ more) locate) (own_numbers (day ++ more) locate n count) ≡ map (own_at day locate) (own_numbers day locate n count)
own_before day more locate n zero some within = refl
own_before day more locate n (suc count) some within =
    let one : count + 1 ≡ suc count = omega arith in
    let low : 0 < n + count = omega (arith, some) in
    let high : n + count ≤ length day = omega (arith, within) in
    let next : (d : List (List ℕ)) → map (own_at d locate) (own_numbers d locate n (suc count))
    ≡ map (own_at d locate) (own_numbers d locate n count) ++ cond (is_of_stock locate (payload_at d (n + count))) (own_at d locate (n + count) ∷ []) []
    = λ d. ap (λ (k : ℕ). map (own_at d locate) (own_numbers d locate n k)) (sym one) ∙ own_more (own_at d locate) d locate n count (n + count) refl in
    next (day ++ more)
    ∙ (λ i. own_before day more locate n count some (omega (arith, within)) i
    ++ cond (is_of_stock locate (payload_more day more (n + count) low high i)) (own_at_more day more locate (n + count) low high i ∷ []) [])
    ∙ sym (next day)

module _ (day : List (List ℕ)) (payload : List ℕ) (locate n : ℕ) (some : 0 < n) (within : n ≤ length day + 1) where
  pub own_next : (own : Bool) → is_of_stock locate payload ≡ own
      → own_from (day ++ payload ∷ []) locate n ≡ own_from day locate n ++ cond own (own_at (day ++ payload ∷ []) locate (length day + 1) ∷ []) []
  own_next own is =
      let whole = day ++ payload ∷ [] in
      let count : ℕ = length day + 1 - n in
      let all : length whole + 1 - n ≡ count + 1 = omega (arith, longer day payload, within) in
      let seam : n + count ≡ length day + 1 = omega (arith, within) in
      ap (λ (k : ℕ). map (own_at whole locate) (own_numbers whole locate n k)) all
      ∙ own_more (own_at whole locate) whole locate n count (length day + 1) seam
      ∙ (λ i. own_before day (payload ∷ []) locate n count some (omega (arith, seam)) i
      ++ cond ((ap (is_of_stock locate) (payload_last day payload) ∙ is) i) (own_at whole locate (length day + 1) ∷ []) [])

-- ---- the message that a stock's machine takes next

-- an order is found in its stock's own rows
abbrev pub OrdersAreOwn : Type 0
OrdersAreOwn = (w : World) (locate reference : ℕ) → order (only locate w) locate reference ≡ order w locate reference

pub first_own : OrdersAreOwn → (w : World) (locate : ℕ) (references : List ℕ) → first_order (only locate w) locate references ≡ first_order w locate references
first_own orders w locate [] = refl
first_own orders w locate (reference ∷ others) = orders w locate reference

module _ (own : StepsAreOwn) (orders : OrdersAreOwn) (day : List (List ℕ)) (payload : List ℕ) (stock : StockMachine)
    (world : stock.world ≡ only stock.locate (after day (length day))) (at : part payload ≡ OfStock stock.locate) where
  took : step stock.world payload ≡ ((step (after day (length day)) payload).0, only stock.locate (step (after day (length day)) payload).1)
  took = ap (λ (w : World). step w payload) world ∙ own (after day (length day)) payload stock.locate at

  pub rows_next : (step stock.world payload).1 ≡ only stock.locate (after (day ++ payload ∷ []) (length (day ++ payload ∷ [])))
  rows_next = ap (λ (r : Outcome × World). r.1) took ∙ ap (only stock.locate) (sym (after_whole day payload))

  before_it : after (day ++ payload ∷ []) (length day + 1 - 1) ≡ after day (length day)
  before_it =
      let same : length day + 1 - 1 ≡ length day = omega arith in
      ap (after (day ++ payload ∷ [])) same ∙ after_more day (payload ∷ []) (length day) (omega arith)

  named_next : order_named stock.world stock.locate payload
      ≡ order_named (after (day ++ payload ∷ []) (length day + 1 - 1)) stock.locate (payload_at (day ++ payload ∷ []) (length day + 1))
  named_next =
      ap (λ (w : World). order_named w stock.locate payload) world
      ∙ first_own orders (after day (length day)) stock.locate (references_by (shape_of payload))
      ∙ (λ i. order_named (sym before_it i) stock.locate (sym (payload_last day payload) i))

  pub message_next : next_message (length day + 1) payload stock ≡ own_at (day ++ payload ∷ []) stock.locate (length day + 1)
  message_next = λ i. record {
    locate = stock.locate;
    number = length day + 1;
    payload = sym (payload_last day payload) i;
    named = named_next i;
    outcome = (ap (λ (r : Outcome × World). r.0) took ∙ sym (outcome_last day payload)) i;
    rows = (ap (λ (r : Outcome × World). r.1) took ∙ ap (only stock.locate) (sym (after_last day payload))) i;
  }

module _ {N : Type 0} (AreOf : Noting N) (first : N) (day : List (List ℕ)) (payload : List ℕ) (n : ℕ) (stock : StockMachine) (notes : N)
    (some : 0 < n) (within : n ≤ length day + 1) (before : HasNoted AreOf first day n stock notes) where
  -- another stock's message, or one of none
  pub others_noted : OthersStay → part payload ≢ OfStock stock.locate → is_of_stock stock.locate payload ≡ false
      → HasNoted AreOf first (day ++ payload ∷ []) n stock notes
  others_noted others other off =
      let same : own_from (day ++ payload ∷ []) stock.locate n ≡ own_from day stock.locate n =
      own_next day payload stock.locate n some within false off ∙ append-nil (own_from day stock.locate n) in
      record {
        world = before.world ∙ sym (others (after day (length day)) payload stock.locate other) ∙ ap (only stock.locate) (sym (after_whole day payload));
        steps = omega (arith, before.steps, longer day payload);
        noted = subst (AreOf first notes) (sym same) before.noted;
      }

  -- the stock's own
  pub own_noted : StepsAreOwn → OrdersAreOwn → part payload ≡ OfStock stock.locate → is_of_stock stock.locate payload ≡ true
      → (next : StockMachine) (notes' : N) → NotesNext AreOf (length day + 1) payload stock next notes notes'
      → HasNoted AreOf first (day ++ payload ∷ []) n next notes'
  own_noted own orders at on next notes' took =
      let whole = day ++ payload ∷ [] in
      let world : next.world ≡ only stock.locate (after whole (length whole)) = took.world ∙ rows_next own orders day payload stock before.world at in
      let all : own_from whole next.locate n ≡ own_from day stock.locate n ++ next_message (length day + 1) payload stock ∷ [] =
      ap (λ (l : ℕ). own_from whole l n) took.locate ∙ own_next day payload stock.locate n some within true on
      ∙ ap (λ (m : OwnMessage). own_from day stock.locate n ++ m ∷ []) (sym (message_next own orders day payload stock before.world at)) in
      record {
        world = world ∙ (λ i. only (sym took.locate i) (after whole (length whole)));
        steps = omega (arith, took.steps, before.steps, longer day payload);
        noted = subst (AreOf first notes') (sym all) (took.noted first (own_from day stock.locate n) before.noted);
      }
