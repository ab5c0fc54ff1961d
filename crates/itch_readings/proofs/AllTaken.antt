-- All stocks of a day, whose messages are noted, one message on.
use Rattle.std.proofs.Common.{◌≡◌, ◌≢◌, ℕ, zero, suc, ◌+◌, ◌-◌, ◌^◌, ◌<◌, ◌≤◌, List, [], ◌∷◌, ◌++◌, length, get_or, set, map-id, Option, Some, None, All, refl, sym, ap, subst, ◌∙◌, arith, append-nil, inl, inr}
use Rattle.std.specs.Prelude.{IfSome}
use Rattle.std.specs.List.{flat_map, range_with_len}
use Rattle.std.proofs.lemmas.Bool.{cases_eq}
use Rattle.std.proofs.lemmas.List.{get_or-set_same, get_or-set_other, length-set}
use Rattle.std.proofs.lemmas.List.Concat.{flat_map-append}
use Rattle.std.proofs.lemmas.List.FromFn.{map-range_with_len_more}
use Rattle.itch_table.specs.declared.outcome.Outcome.{Outcome}
use Rattle.itch_table.specs.declared.outcome.Part.{Part}
use Rattle.itch_table.specs.declared.outcome.Part.TheVariants.{Locate, Nowhere}
use Rattle.itch_table.specs.After.{after}
use Rattle.itch_table.specs.Parts.{part}
use Rattle.itch_table.specs.Projection.{OthersStay, StepsAreOwn, only, payload_at}
use Rattle.itch_table.proofs.Days.{after-none}
use Rattle.itch_table.proofs.StockDays.{only-empty}
use Rattle.stock_machine.specs.StockRows.{StockMachine}
use Rattle.itch_readings.specs.AllStocks.{HasNotedAll, IsMachineOf, NotesOne, machine_in, own_all, own_by, own_until}
use Rattle.itch_readings.specs.Noting.{NotesNext, Noting}
use Rattle.itch_readings.specs.OwnMessages.{OwnMessage, own_at}
use Rattle.itch_readings.proofs.LongerDays.{after_whole, longer, payload_last, payload_more}
use Rattle.itch_readings.proofs.OwnMore.{OrdersAreOwn, message_next, own_at_more, rows_next}

-- ---- messages

pub until_more : (day : List (List ℕ)) (n : ℕ) → own_until day (n + 1) ≡ own_until day n ++ own_by day (n + 1) (part (payload_at day (n + 1)))
until_more day n =
    let seam : 1 + n ≡ n + 1 = omega arith in
    let by : ℕ → List OwnMessage = λ k. own_by day k (part (payload_at day k)) in
    let numbers : range_with_len 1 (n + 1) ≡ range_with_len 1 n ++ (n + 1) ∷ [] =
    sym (map-id _) ∙ map-range_with_len_more (λ (k : ℕ). k) 1 n (n + 1) seam ∙ ap (λ (l : List ℕ). l ++ (n + 1) ∷ []) (map-id _) in
    ap (flat_map by) numbers ∙ flat_map-append by (range_with_len 1 n) ((n + 1) ∷ [])
    ∙ ap (λ (l : List OwnMessage). own_until day n ++ l) (append-nil (by (n + 1)))

by_more : (day more : List (List ℕ)) (n : ℕ) (p : Part) → 0 < n → n ≤ length day → own_by (day ++ more) n p ≡ own_by day n p
by_more day more n (Locate locate) some within = ap (λ (m : OwnMessage). m ∷ []) (own_at_more day more locate n some within)
by_more day more n (Nowhere fixed) some within = refl

until_before : (day more : List (List ℕ)) (n : ℕ) → n ≤ length day → own_until (day ++ more) n ≡ own_until day n
until_before day more zero within = refl
until_before day more (suc n) within =
    let one : n + 1 ≡ suc n = omega arith in
    let low : 0 < n + 1 = omega arith in
    let high : n + 1 ≤ length day = omega (arith, within) in
    ap (own_until (day ++ more)) (sym one) ∙ until_more (day ++ more) n
    ∙ (λ i. until_before day more n (omega (arith, within)) i ++ own_by (day ++ more) (n + 1) (part (payload_more day more (n + 1) low high i)))
    ∙ ap (λ (l : List OwnMessage). own_until day n ++ l) (by_more day more (n + 1) (part (payload_at day (n + 1))) low high)
    ∙ sym (until_more day n) ∙ ap (own_until day) one

all_more : (day : List (List ℕ)) (payload : List ℕ) → own_all (day ++ payload ∷ []) ≡ own_all day ++ own_by (day ++ payload ∷ []) (length day + 1) (part payload)
all_more day payload =
    let whole = day ++ payload ∷ [] in
    ap (own_until whole) (longer day payload) ∙ until_more whole (length day)
    ∙ (λ i. until_before day (payload ∷ []) (length day) (omega arith) i ++ own_by whole (length day + 1) (part (payload_last day payload i)))

-- ---- machines

pub record IsMachineAt (day : List (List ℕ)) (locate : ℕ) (stock : StockMachine) : Type 0 where
  pub own : stock.locate ≡ locate
  pub world : stock.world ≡ only stock.locate (after day (length day))
  pub steps : stock.steps ≤ length day

pub machine_there : (day : List (List ℕ)) (locate : ℕ) (slot : Option StockMachine) → IsMachineOf day locate slot → IsMachineAt day locate (machine_in locate slot)
machine_there day locate None is = record { own = refl; world = sym is; steps = omega arith }
machine_there day locate (Some stock) is = record {
  own = is.0;
  world = is.1 ∙ ap (λ (l : ℕ). only l (after day (length day))) (sym is.0);
  steps = is.2;
}

machine_stays : (day : List (List ℕ)) (payload : List ℕ) (locate : ℕ) → OthersStay → part payload ≢ Locate locate
    → (slot : Option StockMachine) → IsMachineOf day locate slot → IsMachineOf (day ++ payload ∷ []) locate slot
machine_stays day payload locate others other None is = ap (only locate) (after_whole day payload) ∙ others (after day (length day)) payload locate other ∙ is
machine_stays day payload locate others other (Some stock) is = (
  is.0,
  is.1 ∙ sym (others (after day (length day)) payload locate other) ∙ ap (only locate) (sym (after_whole day payload)),
  omega (arith, is.2, longer day payload),
)

-- ---- before the first message

pub none_noted : {N : Type 0} (AreOf : Noting N) (notes : N) (machines : List (Option StockMachine)) → length machines ≡ 0x1_0000 → All (λ slot. slot ≡ None) machines
    → AreOf notes notes [] → HasNotedAll AreOf notes [] machines 0 notes
none_noted AreOf notes machines long none are = record {
  long = long;
  counted = refl;
  each = λ locate d low. subst (IsMachineOf [] locate) (sym (none locate d (omega (arith, low, long)))) (ap (only locate) (after-none []) ∙ only-empty locate);
  noted = are;
}

-- ---- one message on

module _ {N : Type 0} (AreOf : Noting N) (first : N) (day : List (List ℕ)) (payload : List ℕ) (machines : List (Option StockMachine)) (messages : ℕ) (notes : N)
    (before : HasNotedAll AreOf first day machines messages notes) where
  -- one of no stock
  pub all_pass : OthersStay → (fixed : Outcome) → Nowhere fixed ≡ part payload → HasNotedAll AreOf first (day ++ payload ∷ []) machines (messages + 1) notes
  all_pass others fixed is =
      let same : own_all (day ++ payload ∷ []) ≡ own_all day =
      all_more day payload ∙ ap (λ (p : Part). own_all day ++ own_by (day ++ payload ∷ []) (length day + 1) p) (sym is) ∙ append-nil (own_all day) in
      record {
        long = before.long;
        counted = ap (λ (k : ℕ). k + 1) before.counted ∙ sym (longer day payload);
        each = λ locate d low.
            let other : part payload ≢ Locate locate = λ on. let never : ⊥ = cc in never in
            machine_stays day payload locate others other _ (before.each locate d low);
        noted = subst (AreOf first notes) (sym same) before.noted;
      }

  module _ (locate : ℕ) (low : locate < 0x1_0000) where
    there : IsMachineAt day locate (machine_in locate (get_or machines locate None))
    there = machine_there day locate (get_or machines locate None) (before.each locate None low)

    pub same_stock : IfSome (get_or machines locate None) (λ stock. stock.locate ≡ locate)
    same_stock = same_in (get_or machines locate None) (before.each locate None low)
      where
        same_in : (slot : Option StockMachine) → IsMachineOf day locate slot → IfSome slot (λ stock. stock.locate ≡ locate)
        same_in None is = tt
        same_in (Some stock) is = is.0

    pub few_steps : length day + 1 < 2 ^ 32 → IfSome (get_or machines locate None) (λ stock. stock.steps < 2 ^ 32 - 1)
    few_steps room = few_in (get_or machines locate None) (before.each locate None low)
      where
        few_in : (slot : Option StockMachine) → IsMachineOf day locate slot → IfSome slot (λ stock. stock.steps < 2 ^ 32 - 1)
        few_in None is = tt
        few_in (Some stock) is = omega (arith, is.2, room)

    -- a stock's
    pub all_own : StepsAreOwn → OthersStay → OrdersAreOwn → Locate locate ≡ part payload
        → (new : List (Option StockMachine)) (more : N) → NotesOne AreOf (messages + 1) payload locate machines new notes more
        → HasNotedAll AreOf first (day ++ payload ∷ []) new (messages + 1) more
    all_own own others orders is new more took =
        let whole = day ++ payload ∷ [] in
        let stock = machine_in locate (get_or machines locate None) in
        let at : part payload ≡ Locate stock.locate = sym is ∙ ap Locate (sym there.own) in
        let next = took.next in
        let notes_next : NotesNext AreOf (length day + 1) payload stock next notes more =
        subst (λ (k : ℕ). NotesNext AreOf (k + 1) payload stock next notes more) before.counted took.notes_next in
        let world : next.world ≡ only locate (after whole (length whole)) =
        notes_next.world ∙ rows_next own orders day payload stock there.world at ∙ ap (λ (l : ℕ). only l (after whole (length whole))) there.own in
        let messages_are : own_all whole ≡ own_all day ++ own_at whole stock.locate (length day + 1) ∷ [] =
        all_more day payload ∙ ap (λ (p : Part). own_all day ++ own_by whole (length day + 1) p) at in
        let one : IsMachineOf whole locate (Some next) =
        (notes_next.locate ∙ there.own, world, omega (arith, notes_next.steps, there.steps, longer day payload)) in
        record {
          long = ap length took.new_is ∙ length-set machines locate (Some next) ∙ before.long;
          counted = ap (λ (k : ℕ). k + 1) before.counted ∙ sym (longer day payload);
          each = λ code d below. elim (cases_eq code locate) [
            | inl same ↦
                let set_here : get_or new code d ≡ Some next =
                ap (λ (l : List (Option StockMachine)). get_or l code d) took.new_is ∙ ap (λ (l : ℕ). get_or (set machines locate (Some next)) l d) same
                ∙ get_or-set_same machines locate (Some next) d (omega (arith, low, before.long)) in
                subst (IsMachineOf whole code) (sym set_here) (subst (λ (l : ℕ). IsMachineOf whole l (Some next)) (sym same) one)
            | inr differ ↦
                let stays : get_or new code d ≡ get_or machines code d =
                ap (λ (l : List (Option StockMachine)). get_or l code d) took.new_is ∙ get_or-set_other machines locate code (Some next) d differ in
                let other : part payload ≢ Locate code = λ on. differ (let e : Locate code ≡ Locate locate = sym on ∙ sym is in cc) in
                subst (IsMachineOf whole code) (sym stays) (machine_stays day payload code others other _ (before.each code d below))
          ];
          noted = subst (AreOf first more)
              (ap (λ (m : OwnMessage). own_all day ++ m ∷ []) (message_next own orders day payload stock there.world at) ∙ sym messages_are)
              (notes_next.noted first (own_all day) before.noted);
        }
