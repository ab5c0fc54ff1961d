-- The machines of all stocks after a whole day, by rising locate code.
use Rattle.std.proofs.Common.{◌≡◌, ℕ, ◌+◌, ◌%◌, List, [], ◌∷◌, ◌++◌, length, map, filter, cond, Bool, true, false, ◌||◌, Option, Some, None, refl, sym, ap, ◌∙◌, arith, append-nil, ◌/◌, ◌<◌}
use Rattle.std.specs.List.{list_any, range_with_len}
use Rattle.std.proofs.lemmas.Bool.{eq-eqb}
use Rattle.std.proofs.lemmas.List.{map-append, take_all}
use Rattle.std.proofs.lemmas.List.Sums.{length-filter}
use Rattle.itch_table.specs.After.{after}
use Rattle.itch_table.specs.AnyWorld.{after_all}
use Rattle.itch_table.specs.Parts.{part}
use Rattle.itch_table.specs.Projection.{is_of_stock, only, stock_day, steps_of}
use Rattle.itch_table.specs.World.{World, empty_world}
use Rattle.itch_table.proofs.AnyWorld.{days_are_lists, lists_split}
use Rattle.itch_table.proofs.StockDays.{only-empty, own_part}
use Rattle.stock_machine.specs.StockRows.{StockMachine}
use Rattle.itch_table.specs.Shows.{locates_of_day}
use Rattle.day_core.proofs.FilteredRanges.{kept_more}
use Rattle.day_core.specs.Owners.{is_own}
use Rattle.day_core.specs.Replaying.{last_machine}
use Rattle.day_replay.specs.Messages.{numbered_after, of_batch, payloads_in}
use Rattle.std.proofs.lemmas.Nat.{mod_below}
use Rattle.day_replay.specs.Batches.{BatchState, locate_at, machine_after}
use Rattle.day_replay.specs.Replays.{AreAfter, Hold}

-- ---- the machine of one stock

-- a stock's messages are all among those of its batch
pub own_in_batch : (batch locate n : ℕ) (day : List (List ℕ)) → locate % 128 ≡ batch → stock_day (payloads_in (of_batch batch (numbered_after n day))) locate ≡ stock_day day locate
unfolding stock_day
own_in_batch batch locate n [] mine = refl
own_in_batch batch locate n (p ∷ ps) mine = by (own_in_batch batch locate (n + 1) ps mine) (is_own 128 batch (part p)) refl
  where
    by : stock_day (payloads_in (of_batch batch (numbered_after (n + 1) ps))) locate ≡ stock_day ps locate
        → (b : Bool) → is_own 128 batch (part p) ≡ b → stock_day (payloads_in (cond b ((n + 1, p) ∷ of_batch batch (numbered_after (n + 1) ps)) (of_batch batch (numbered_after (n + 1) ps)))) locate ≡ stock_day (p ∷ ps) locate
    by rest true own = ap (λ (l : List (List ℕ)). cond (is_of_stock locate p) (p ∷ l) l) rest
    by rest false other = rest ∙ sym (ap (λ (b : Bool). cond b (p ∷ stock_day ps locate) (stock_day ps locate)) (not_own (is_of_stock locate p) refl))
      where
        not_own : (b : Bool) → is_of_stock locate p ≡ b → is_of_stock locate p ≡ false
        not_own false is = is
        not_own true is =
            let on : is_own 128 batch (part p) ≡ true = ap (is_own 128 batch) (own_part locate (part p) is) ∙ eq-eqb (locate % 128) batch mine in
            let never : ⊥ = cc in
            absurd never

module _ (day : List (List ℕ)) (locate : ℕ) where
  rows_last : only locate (after day (length day)) ≡ after_all empty_world (stock_day day locate)
  rows_last =
      ap (only locate) (days_are_lists day (length day) (omega arith) ∙ ap (after_all empty_world) (take_all (length day) day (omega arith)))
      ∙ lists_split empty_world day locate ∙ ap (λ (w : World). after_all w (stock_day day locate)) (only-empty locate)

  steps_last : steps_of day locate (length day) ≡ length (stock_day day locate)
  unfolding stock_day steps_of
  steps_last = rw (take_all (length day) day (omega arith)) (sym (length-filter (is_of_stock locate) day))

  any_own : (own : List (List ℕ)) → Option StockMachine
  any_own [] = None
  any_own (p ∷ ps) = Some (last_machine day locate)

  machine_any : machine_after locate (stock_day day locate) ≡ any_own (stock_day day locate)
  unfolding any_own
  machine_any = by (stock_day day locate) refl
    where
      by : (own : List (List ℕ)) → own ≡ stock_day day locate → machine_after locate own ≡ any_own own
      by [] is = refl
      by (p ∷ ps) is =
          ap (λ (w : World). Some (record { locate = locate; world = w; steps = length (p ∷ ps) })) (ap (after_all empty_world) is ∙ sym rows_last)
          ∙ ap (λ (k : ℕ). Some (record { locate = locate; world = only locate (after day (length day)); steps = k })) (ap length is ∙ sym steps_last)

  any_day : (xs : List (List ℕ)) → any_own (filter (is_of_stock locate) xs) ≡ cond (list_any (is_of_stock locate) xs) (Some (last_machine day locate)) None
  unfolding any_own
  any_day [] = refl
  any_day (x ∷ xs) = by (any_day xs) (is_of_stock locate x)
    where
      by : any_own (filter (is_of_stock locate) xs) ≡ cond (list_any (is_of_stock locate) xs) (Some (last_machine day locate)) None → (b : Bool) → any_own (cond b (x ∷ filter (is_of_stock locate) xs) (filter (is_of_stock locate) xs)) ≡ cond (b || list_any (is_of_stock locate) xs) (Some (last_machine day locate)) None
      by rest true = refl
      by rest false = rest

  -- a stock that has messages has its last machine, and another none
  pub machine_last : machine_after locate (stock_day day locate) ≡ cond (list_any (is_of_stock locate) day) (Some (last_machine day locate)) None
  unfolding stock_day
  machine_last = machine_any ∙ any_day day

-- ---- all machines by rising locate code

abbrev pub found_in : List (List ℕ) → ℕ → Option StockMachine
found_in day locate = cond (list_any (is_of_stock locate) day) (Some (last_machine day locate)) None

abbrev pub any_in : List (List ℕ) → ℕ → Bool
any_in day locate = list_any (is_of_stock locate) day

-- the machines below some locate code, and the one at it
some_found : (day : List (List ℕ)) (locate : ℕ) (m : StockMachine) → Some m ≡ found_in day locate → map (last_machine day) (cond (any_in day locate) (locate ∷ []) []) ≡ m ∷ []
some_found day locate m is = by (any_in day locate) is
  where
    out : Option StockMachine → StockMachine
    out None = m
    out (Some k) = k

    by : (b : Bool) → Some m ≡ cond b (Some (last_machine day locate)) None → map (last_machine day) (cond b (locate ∷ []) []) ≡ m ∷ []
    by true is = ap (λ (k : StockMachine). k ∷ []) (sym (ap out is))
    by false is = let never : ⊥ = cc in absurd never

none_found : (day : List (List ℕ)) (locate : ℕ) → None ≡ found_in day locate → map (last_machine day) (cond (any_in day locate) (locate ∷ []) []) ≡ []
none_found day locate is = by (any_in day locate) is
  where
    by : (b : Bool) → None ≡ cond b (Some (last_machine day locate)) None → map (last_machine day) (cond b (locate ∷ []) []) ≡ []
    by true is = let never : ⊥ = cc in absurd never
    by false is = refl

abbrev pub machines_below : List (List ℕ) → ℕ → List StockMachine
machines_below day locate = map (last_machine day) (filter (any_in day) (range_with_len 0 locate))

below_next : (day : List (List ℕ)) (locate : ℕ) → machines_below day (locate + 1) ≡ machines_below day locate ++ map (last_machine day) (cond (any_in day locate) (locate ∷ []) [])
below_next day locate =
    ap (map (last_machine day)) (kept_more (any_in day) 0 locate locate (omega arith))
    ∙ map-append (last_machine day) (filter (any_in day) (range_with_len 0 locate)) (cond (any_in day locate) (locate ∷ []) [])

pub below_some : (day : List (List ℕ)) (locate : ℕ) (m : StockMachine) → Some m ≡ found_in day locate → machines_below day (locate + 1) ≡ machines_below day locate ++ m ∷ []
below_some day locate m is = below_next day locate ∙ ap (λ (l : List StockMachine). machines_below day locate ++ l) (some_found day locate m is)

pub below_none : (day : List (List ℕ)) (locate : ℕ) → None ≡ found_in day locate → machines_below day (locate + 1) ≡ machines_below day locate
below_none day locate is = below_next day locate ∙ ap (λ (l : List StockMachine). machines_below day locate ++ l) (none_found day locate is) ∙ append-nil (machines_below day locate)

pub below_all : (day : List (List ℕ)) → machines_below day 0x1_0000 ≡ map (last_machine day) (locates_of_day day)
unfolding locates_of_day
below_all day = refl

-- batches that have done a whole day hold them
pub found_first : (day : List (List ℕ)) (batches : List BatchState) → AreAfter day batches → Hold (found_in day) 0 batches
found_first day batches has locate b d le lt =
    let below : locate % 128 < 128 = mod_below locate 128 (omega arith) in
    let here : locate_at (locate % 128) (locate / 128) ≡ locate = omega arith in
    let mine = payloads_in (of_batch (locate % 128) (numbered_after 0 day)) in
    (has (locate % 128) b below).machines_are (locate / 128) d (omega (arith, lt))
    ∙ ap (λ (k : ℕ). machine_after k (stock_day mine k)) here
    ∙ ap (machine_after locate) (own_in_batch (locate % 128) locate 0 day refl)
    ∙ machine_last day locate
