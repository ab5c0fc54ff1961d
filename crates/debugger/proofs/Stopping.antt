-- What one message more shows of the stops.
use Rattle.std.proofs.Common.{◌≡◌, ℕ, zero, suc, ◌+◌, ◌-◌, ◌^◌, ◌<◌, ◌≤◌, List, [], ◌∷◌, ◌++◌, length, Bool, true, false, not, cond, get_or, filter, take, refl, sym, ap, ◌∙◌, arith, inl, inr, append-nil}
use Rattle.std.specs.Prelude.{◌==◌, ◌&&◌, ◌||◌}
use Rattle.std.specs.List.{list_any, range_with_len}
use Rattle.std.proofs.lemmas.Bool.{cases_Bool, eq-eqb, false≢true}
use Rattle.std.proofs.lemmas.List.{take_more}
use Rattle.std.proofs.lemmas.List.Folds.{list_any-append, list_any_at}
use Rattle.std.proofs.lemmas.List.{get_or-take, length-take-le}
use Rattle.itch_layouts.specs.Shapes.{shape_of}
use Rattle.itch_table.specs.declared.order.Side.{Side}
use Rattle.itch_table.specs.declared.outcome.Outcome.{Outcome}
use Rattle.itch_table.specs.After.{after}
use Rattle.itch_table.specs.Levels.{shares_at}
use Rattle.itch_table.specs.Parts.{part}
use Rattle.itch_table.specs.Projection.{is_of_stock, payload_at}
use Rattle.itch_table.specs.Table.{step}
use Rattle.itch_table.specs.World.{empty_world, orders_of}
use Rattle.itch_table.proofs.OneStock.{orders_of-only}
use Rattle.itch_table.proofs.StockDays.{own_part}
use Rattle.stock_machine.specs.StockRows.{StockMachine}
use Rattle.day_core.specs.Owners.{machine_of}
use Rattle.day_core.proofs.Progress.{machine_stays}
use Rattle.day_core.proofs.FilteredRanges.{kept_more}
use Rattle.day_core.proofs.MachineSteps.{machine_stepped, steps_most}
use Rattle.checkpoints.proofs.Reading.{IsReading, read_all, read_more, read_none, read_payload, read_within}
use Rattle.checkpoints.proofs.Along.{first_machine}
use Rattle.checkpoints.specs.Copies.{machine_after_own}
use Rattle.checkpoints.proofs.Splitting.{split}
use Rattle.debugger.specs.declared.breakpoint.Break.TheVariants.{Price, Time}
use Rattle.debugger.specs.Stops.{changes, first_reaches, reaches, shares_after, stops_of}

-- ---- a level

module _ (day : List (List ℕ)) (locate : ℕ) (side : Side) (price : ℕ) where
  abbrev level : StockMachine → ℕ
  level m = shares_at (orders_of m.world m.locate) side price

  -- a stock's machine has the day's levels
  level_is : (n : ℕ) (m : StockMachine) → m ≡ machine_of day locate n → level m ≡ shares_after day locate side price n
  unfolding shares_after
  level_is n m is = ap level is ∙ ap (λ orders. shares_at orders side price) (orders_of-only (after day n) locate)

  module _ (n : ℕ) (payload : List ℕ) (here : payload ≡ payload_at day (n + 1)) (m : StockMachine) (is : m ≡ machine_of day locate n) where
    before : n + 1 - 1 ≡ n
    before = omega arith

    -- a message of others
    module _ (other : is_of_stock locate payload ≡ false) where
      pub stays : m ≡ machine_of day locate (n + 1)
      stays = is ∙ sym (machine_stays day locate n (ap (is_of_stock locate) (ap (λ (k : ℕ). get_or day k []) (sym before) ∙ sym here) ∙ other))

      pub unchanged : false ≡ changes locate side price day (n + 1)
      unchanged =
          let same : shares_after day locate side price (n + 1) ≡ shares_after day locate side price (n + 1 - 1) =
          sym (level_is (n + 1) m stays) ∙ level_is n m is ∙ ap (shares_after day locate side price) (sym before)
          in
          sym (ap not (eq-eqb _ _ same))

    -- a message of the stock
    module _ (own : is_of_stock locate payload ≡ true) (then : StockMachine) (o : Outcome) (code : then.locate ≡ m.locate) (steps : then.steps ≡ m.steps + 1) (gives : (o, then.world) ≡ step m.world payload) where
      pub taken : then ≡ machine_of day locate (n + 1)
      taken =
          (machine_stepped day locate (n + 1) m then o (omega arith) (ap part (sym here) ∙ own_part locate _ own) (is ∙ ap (machine_of day locate) (sym before)) code steps (gives ∙ ap (step m.world) here)).0

      pub changed : not (level then == level m) ≡ changes locate side price day (n + 1)
      changed =
          let now = level_is (n + 1) then taken in
          let old = level_is n m is ∙ ap (shares_after day locate side price) (sym before) in
          ap (λ (a : ℕ). not (a == level m)) now ∙ ap (λ (a : ℕ). not (shares_after day locate side price (n + 1) == a)) old

-- ---- the stops of a level

-- the first n payloads were read, the machine has taken those of its stock, and these messages changed the level
pub record IsPricing (day left : List (List ℕ)) (locate : ℕ) (side : Side) (price n : ℕ) (m : StockMachine) (stops : List ℕ) : Type 0 where
  pub reading : IsReading day left n
  pub stands : m ≡ machine_of day locate n
  pub kept : stops ≡ filter (changes locate side price day) (range_with_len 1 n)

machine_first : (day : List (List ℕ)) (locate : ℕ) (m : StockMachine) → m.locate ≡ locate → m.world ≡ empty_world → m.steps ≡ 0 → m ≡ machine_of day locate 0
unfolding machine_after_own
machine_first day locate m code world steps = first_machine day locate m code world steps

pub priced_none : (day left : List (List ℕ)) (locate : ℕ) (side : Side) (price : ℕ) (m : StockMachine) (stops : List ℕ) → left ≡ day → m.locate ≡ locate → m.world ≡ empty_world → m.steps ≡ 0 → stops ≡ []
    → IsPricing day left locate side price 0 m stops
priced_none day left locate side price m stops is code world steps none =
    record { reading = read_none day left is; stands = machine_first day locate m code world steps; kept = none }

module _ (day left : List (List ℕ)) (locate : ℕ) (side : Side) (price n : ℕ) (m : StockMachine) (stops : List ℕ) (pricing : IsPricing day left locate side price n m stops) where
  pub priced_locate : m.locate ≡ locate
  priced_locate = ap (λ (k : StockMachine). k.locate) pricing.stands

  pub priced_self : m ≡ machine_of day m.locate n
  priced_self = pricing.stands ∙ ap (λ (l : ℕ). machine_of day l n) (sym priced_locate)

  pub priced_all : left ≡ [] → stops ≡ stops_of day (Price locate side price)
  unfolding stops_of
  priced_all none = pricing.kept ∙ ap (λ (k : ℕ). filter (changes locate side price day) (range_with_len 1 k)) (read_all day left n pricing.reading none)

  pub priced_here : (rest : List (List ℕ)) (payload : List ℕ) → left ≡ payload ∷ rest → payload ≡ payload_at day (n + 1)
  priced_here rest payload goes_on = read_payload day left rest n pricing.reading payload goes_on

  pub priced_few : (rest : List (List ℕ)) (payload : List ℕ) → left ≡ payload ∷ rest → length day < 2 ^ 32 → m.steps < 2 ^ 32 - 1
  priced_few rest payload goes_on few =
      let within = read_within day left rest n pricing.reading payload goes_on in
      omega (arith, few, within, ap (λ (k : StockMachine). k.steps) pricing.stands, steps_most day locate n)

  module _ (rest : List (List ℕ)) (payload : List ℕ) (goes_on : left ≡ payload ∷ rest) (then : StockMachine) (stands : then ≡ machine_of day m.locate (n + 1)) (b : Bool) (test : b ≡ changes m.locate side price day (n + 1)) where
    more : filter (changes locate side price day) (range_with_len 1 (n + 1)) ≡ stops ++ cond b ((n + 1) ∷ []) []
    more =
        kept_more (changes locate side price day) 1 n (n + 1) (omega arith)
        ∙ ap (λ (l : List ℕ). l ++ cond (changes locate side price day (n + 1)) ((n + 1) ∷ []) []) (sym pricing.kept)
        ∙ ap (λ (q : Bool). stops ++ cond q ((n + 1) ∷ []) []) (sym (test ∙ ap (λ (l : ℕ). changes l side price day (n + 1)) priced_locate))

    pub priced_more : (pushed : List ℕ) → pushed ≡ stops ++ cond b ((n + 1) ∷ []) [] → IsPricing day rest locate side price (n + 1) then pushed
    priced_more pushed is = record {
      reading = read_more day left rest n pricing.reading payload goes_on;
      stands = stands ∙ ap (λ (l : ℕ). machine_of day l (n + 1)) priced_locate;
      kept = is ∙ sym more;
    }

-- ---- the stop of a time

kept_never : (p : ℕ → Bool) (a n : ℕ) → ((k : ℕ) → a ≤ k → k < a + n → p k ≡ false) → filter p (range_with_len a n) ≡ []
kept_never p a zero never = refl
kept_never p a (suc n) never =
    rw (never a (omega arith) (omega arith)) (kept_never p (a + 1) n (λ k low high. never k (omega arith) (omega arith)))

module _ (day : List (List ℕ)) (time : ℕ) where
  abbrev q : List ℕ → Bool
  q payload = reaches time (shape_of payload)

  any_first : (n : ℕ) → n < length day → list_any q (take (n + 1) day) ≡ (list_any q (take n day) || q (get_or day n []))
  any_first n lt = ap (list_any q) (take_more day n [] lt) ∙ list_any-append q (take n day) (get_or day n [] ∷ []) ∙ grind (arith)

  -- where none of the first n messages is of that time, the breakpoint doesn't stop there
  not_yet : (n : ℕ) → n ≤ length day → list_any q (take n day) ≡ false → (k : ℕ) → 1 ≤ k → k ≤ n → first_reaches time day k ≡ false
  unfolding first_reaches
  not_yet n le none k some low = elim (cases_Bool (q (payload_at day k))) [
    | inl on ↦
        let at : get_or (take n day) (k - 1) [] ≡ payload_at day k = get_or-take n day (k - 1) [] (omega arith) in
        let there = list_any_at q (take n day) (k - 1) [] (omega (arith, length-take-le n day le, some, low)) (ap q at ∙ on) in
        absurd (false≢true (sym none ∙ there))
    | inr off ↦ ap (λ (b : Bool). b && not (list_any q (take (k - 1) day))) off
  ]

  -- nor after one that is
  no_more : (n : ℕ) → n ≤ length day → 1 ≤ n → q (payload_at day n) ≡ true → (k : ℕ) → n < k → k ≤ length day → first_reaches time day k ≡ false
  unfolding first_reaches
  no_more n le some on k low high =
      let at : get_or (take (k - 1) day) (n - 1) [] ≡ payload_at day n = get_or-take (k - 1) day (n - 1) [] (omega arith) in
      let there = list_any_at q (take (k - 1) day) (n - 1) [] (omega (arith, length-take-le (k - 1) day (omega arith), some, low)) (ap q at ∙ on) in
      ap (λ (b : Bool). q (payload_at day k) && not b) there ∙ grind (arith)

-- the first n payloads were read, none of them is of that time, and no stop was found
pub record IsWaiting (day left : List (List ℕ)) (time n : ℕ) (stops : List ℕ) : Type 0 where
  pub reading : IsReading day left n
  pub none : list_any (λ payload. reaches time (shape_of payload)) (take n day) ≡ false
  pub empty : stops ≡ []

module _ (day left : List (List ℕ)) (time n : ℕ) (stops : List ℕ) (waiting : IsWaiting day left time n stops) where
  -- the whole day is read
  pub waited_all : left ≡ [] → stops ≡ stops_of day (Time time)
  unfolding stops_of
  waited_all none =
      let all = read_all day left n waiting.reading none in
      waiting.empty
      ∙ sym (kept_never (first_reaches time day) 1 (length day) (λ k low high. not_yet day time n waiting.reading.within waiting.none k low (omega arith)))

  module _ (rest : List (List ℕ)) (payload : List ℕ) (goes_on : left ≡ payload ∷ rest) where
    inside : n + 1 ≤ length day
    inside = read_within day left rest n waiting.reading payload goes_on

    here : payload ≡ payload_at day (n + 1)
    here = read_payload day left rest n waiting.reading payload goes_on

    -- a message of an earlier time
    pub waited_more : reaches time (shape_of payload) ≡ false → IsWaiting day rest time (n + 1) stops
    waited_more off =
        let before : n + 1 - 1 ≡ n = omega arith in
        let at : payload ≡ get_or day n [] = here ∙ ap (λ (k : ℕ). get_or day k []) before in
        record {
          reading = read_more day left rest n waiting.reading payload goes_on;
          none =
              any_first day time n (omega (arith, inside))
              ∙ ap (λ (b : Bool). b || q day time (get_or day n [])) waiting.none
              ∙ ap (q day time) (sym at) ∙ off;
          empty = waiting.empty;
        }

    -- the first one of that time
    pub waited_until : reaches time (shape_of payload) ≡ true → (pushed : List ℕ) → pushed ≡ stops ++ (n + 1) ∷ [] → pushed ≡ stops_of day (Time time)
    unfolding stops_of first_reaches
    waited_until on pushed is =
        let p = first_reaches time day in
        let before : n + 1 - 1 ≡ n = omega arith in
        let now : p (n + 1) ≡ true =
        ap (λ (b : Bool). b && not (list_any (q day time) (take (n + 1 - 1) day))) (ap (q day time) (sym here) ∙ on)
        ∙ ap (λ (k : ℕ). not (list_any (q day time) (take k day))) before ∙ ap not waiting.none
        in
        let past = kept_never p (1 + (n + 1)) (length day - (n + 1)) (λ k low high. no_more day time (n + 1) inside (omega arith) (ap (q day time) (sym here) ∙ on) k (omega arith) (omega (arith, inside, high))) in
        let early = kept_never p 1 n (λ k low high. not_yet day time n waiting.reading.within waiting.none k low (omega arith)) in
        is ∙ ap (λ (l : List ℕ). l ++ (n + 1) ∷ []) (waiting.empty ∙ sym early)
        ∙ sym (
        split p (n + 1) (length day) inside
        ∙ ap (λ (l : List ℕ). filter p (range_with_len 1 (n + 1)) ++ l) past ∙ append-nil _
        ∙ kept_more p 1 n (n + 1) (omega arith)
        ∙ ap (λ (b : Bool). filter p (range_with_len 1 n) ++ cond b ((n + 1) ∷ []) []) now
        )
