-- A batch that does one message more.
use Rattle.std.proofs.Common.{◌≡◌, ◌≢◌, ℕ, ◌+◌, ◌-◌, ◌/◌, ◌%◌, ◌<◌, ◌≤◌, ◌^◌, List, [], ◌∷◌, ◌++◌, length, get_or, set, map, take, filter, cond, Bool, true, false, Option, Some, None, IfSome, Result, Ok, Err, OnOk, is_err, All, refl, sym, ap, subst, ◌∙◌, arith, inl, inr, append-nil}
use Rattle.std.specs.Option.{option_map}
use Rattle.std.proofs.lemmas.Bool.{cases_eq, eqb-true, ne_eqb}
use Rattle.std.proofs.lemmas.Nat.{mod_below}
use Rattle.std.proofs.lemmas.List.{append_assoc, get_or-map, get_or-set_same, get_or-set_other, length-append, length-map, map-append, map-set}
use Rattle.std.proofs.Math.Seq.{take-append_seam}
use Rattle.std.proofs.lemmas.List.Elements.{All-head, All-tail, filter-append}
use Rattle.itch_table.specs.declared.outcome.Outcome.{Outcome}
use Rattle.itch_table.specs.declared.outcome.Part.{Part}
use Rattle.itch_table.specs.declared.outcome.Part.TheVariants.{Locate, Nowhere}
use Rattle.itch_table.specs.AnyWorld.{after_all}
use Rattle.itch_table.specs.Parts.{part}
use Rattle.itch_table.specs.Projection.{is_locate, is_of_stock, only, stock_day}
use Rattle.itch_table.specs.Table.{step}
use Rattle.itch_table.specs.World.{World, empty_world}
use Rattle.itch_table.proofs.AnyWorld.{after_all-push, lists_split}
use Rattle.itch_table.proofs.OwnSteps.{steps_are_own}
use Rattle.itch_table.proofs.StockDays.{is_own_part, only-empty}
use Rattle.stock_machine.specs.StockRows.{StockMachine}
use Rattle.day_core.specs.Owners.{is_own}
use Rattle.day_core.proofs.LocateCodes.{same_code}
use Rattle.day_replay.specs.declared.refusals.RefusedMessage.{RefusedMessage}
use Rattle.day_replay.specs.Messages.{is_of_batch, payloads_in}
use Rattle.day_replay.specs.Batches.{AreOwn, BatchState, HasDone, locate_at, machine_after, outcome_in, refused_from, stepped, steps_in, world_in}
use Rattle.day_replay.specs.NoStock.{if_refused}
use Rattle.day_replay.specs.Summaries.{stock_of}

-- ---- one payload more

pub payloads_in-push : (messages : List (ℕ × List ℕ)) (n : ℕ) (payload : List ℕ) → payloads_in (messages ++ (n, payload) ∷ []) ≡ payloads_in messages ++ payload ∷ []
payloads_in-push messages n payload = map-append (λ (m : ℕ × List ℕ). m.1) messages ((n, payload) ∷ [])

pub refused_from-push : (w : World) (messages : List (ℕ × List ℕ)) (n : ℕ) (payload : List ℕ)
    → refused_from w (messages ++ (n, payload) ∷ []) ≡ refused_from w messages ++ if_refused n (stock_of (part payload)) (step (after_all w (payloads_in messages)) payload).0
refused_from-push w [] n payload = append-nil (if_refused n (stock_of (part payload)) (step w payload).0)
refused_from-push w (m ∷ ms) n payload =
    let first = if_refused m.0 (stock_of (part m.1)) (step w m.1).0 in
    ap (λ (ps : List RefusedMessage). first ++ ps) (refused_from-push (step w m.1).1 ms n payload)
    ∙ sym (append_assoc first (refused_from (step w m.1).1 ms) (if_refused n (stock_of (part payload)) (step (after_all (step w m.1).1 (payloads_in ms)) payload).0))

pub stock_day-push : (day : List (List ℕ)) (payload : List ℕ) (locate : ℕ) → stock_day (day ++ payload ∷ []) locate ≡ stock_day day locate ++ cond (is_of_stock locate payload) (payload ∷ []) []
unfolding stock_day
stock_day-push day payload locate = filter-append (is_of_stock locate) day (payload ∷ [])

-- ---- a stock's machine

pub world_after : (locate : ℕ) (own : List (List ℕ)) → world_in (machine_after locate own) ≡ after_all empty_world own
world_after locate [] = refl
world_after locate (payload ∷ payloads) = refl

pub steps_after : (locate : ℕ) (own : List (List ℕ)) → steps_in (machine_after locate own) ≡ length own
steps_after locate [] = refl
steps_after locate (payload ∷ payloads) = refl

machine_some : (locate : ℕ) (own : List (List ℕ)) (payload : List ℕ)
    → machine_after locate (own ++ payload ∷ []) ≡ Some (record { locate = locate; world = after_all empty_world (own ++ payload ∷ []); steps = length (own ++ payload ∷ []) })
machine_some locate [] payload = refl
machine_some locate (p ∷ ps) payload = refl

machine-push : (locate : ℕ) (own : List (List ℕ)) (payload : List ℕ) → machine_after locate (own ++ payload ∷ []) ≡ Some (stepped locate (machine_after locate own) payload)
machine-push locate own payload =
    let long : length (own ++ payload ∷ []) ≡ steps_in (machine_after locate own) + 1 = omega (arith, length-append own (payload ∷ []), steps_after locate own) in
    machine_some locate own payload
    ∙ ap (λ (w : World). Some (record { locate = locate; world = w; steps = length (own ++ payload ∷ []) }))
    (after_all-push empty_world own payload ∙ ap (λ (w : World). (step w payload).1) (sym (world_after locate own)))
    ∙ ap (λ (n : ℕ). Some (record { locate = locate; world = (step (world_in (machine_after locate own)) payload).1; steps = n })) long

-- a message has the outcome that it has on its stock's own rows
pub outcome_own : (day : List (List ℕ)) (payload : List ℕ) (locate : ℕ) → part payload ≡ Locate locate
    → (step (after_all empty_world day) payload).0 ≡ outcome_in (machine_after locate (stock_day day locate)) payload
outcome_own day payload locate own =
    let rows : only locate (after_all empty_world day) ≡ after_all empty_world (stock_day day locate) =
    lists_split empty_world day locate ∙ ap (λ (w : World). after_all w (stock_day day locate)) (only-empty locate) in
    sym (ap (λ (r : Outcome × World). r.0) (steps_are_own (after_all empty_world day) payload locate own))
    ∙ ap (λ (w : World). (step w payload).0) (rows ∙ sym (world_after locate (stock_day day locate)))

pub filter_few : {X : Type 0} (p : X → Bool) (xs : List X) → length (filter p xs) ≤ length xs
filter_few p [] = omega arith
filter_few {X} p (x ∷ xs) = first (p x) (filter_few p xs)
  where
    first : (b : Bool) → length (filter p xs) ≤ length xs → length (cond b (x ∷ filter p xs) (filter p xs)) ≤ length (x ∷ xs)
    first true le = omega (arith, le)
    first false le = omega (arith, le)

pub own_few : (locate : ℕ) (day : List (List ℕ)) → length (stock_day day locate) ≤ length day
unfolding stock_day
own_few locate day = filter_few (is_of_stock locate) day

-- the state of a batch by its fields
abbrev pub state_of : {V : Type 0} → (V → StockMachine) → List (Option V) → List RefusedMessage → Bool → BatchState
state_of value slots refused failed = record { stocks = map (option_map value) slots; refused = refused; failed = failed }

-- ---- whose a message is

pub own_locate : (batch : ℕ) (p : Part) → is_own 128 batch p ≡ true → (locate : ℕ) × (p ≡ Locate locate) × (locate % 128 ≡ batch)
own_locate batch (Locate locate) own = (locate, refl, eqb-true (locate % 128) batch own)
own_locate batch (Nowhere outcome) own = let never : ⊥ = cc in absurd never

pub own_found : (batch n : ℕ) (payload : List ℕ) → AreOwn batch ((n, payload) ∷ []) → (locate : ℕ) × (part payload ≡ Locate locate)
own_found batch n payload own =
    let found = own_locate batch (part payload) (All-head (λ m. is_of_batch batch m ≡ true) (n, payload) [] own) in
    (found.0, found.1)

module _ (batch locate : ℕ) (payload : List ℕ) (own : part payload ≡ Locate locate) (in_batch : is_own 128 batch (part payload) ≡ true) where
  remainder : locate % 128 ≡ batch
  remainder = let found = own_locate batch (part payload) in_batch in ap (λ (n : ℕ). n % 128) (same_code (sym own ∙ found.1)) ∙ found.2

  pub here : locate_at batch (locate / 128) ≡ locate
  here = omega (arith, remainder)

  module _ (V : Type 0) (value : V → StockMachine) (messages : List (ℕ × List ℕ)) (slots : List (Option V)) (refused : List RefusedMessage) (failed : Bool)
      (done : HasDone batch messages (state_of value slots refused failed)) (long : length slots ≡ 512) (fits : locate < 0x1_0000) where
    abbrev pub before : List (List ℕ)
    before = stock_day (payloads_in messages) locate

    below : locate / 128 < 512
    below = omega (arith, fits)

    -- the machine that the batch has of the stock
    pub found_is : (x : Option V) → x ≡ get_or slots (locate / 128) x → option_map value x ≡ machine_after locate before
    found_is x is =
        ap (option_map value) is
        ∙ sym (get_or-map (option_map value) slots (locate / 128) x (option_map value x) (omega (arith, below, long)))
        ∙ done.machines_are (locate / 128) (option_map value x) below
        ∙ ap (λ (l : ℕ). machine_after l (stock_day (payloads_in messages) l)) here

    same_in : (x : Option V) → option_map value x ≡ machine_after locate before → (own : List (List ℕ)) → own ≡ before → IfSome x (λ v. (value v).locate ≡ locate)
    same_in None is own e = tt
    same_in (Some v) is own e = the_locate own (is ∙ ap (machine_after locate) (sym e))
      where
        code : Option StockMachine → ℕ
        code None = locate
        code (Some m) = m.locate

        the_locate : (own : List (List ℕ)) → Some (value v) ≡ machine_after locate own → (value v).locate ≡ locate
        the_locate [] never = ap code never
        the_locate (p ∷ ps) is = ap code is

    few_in : length messages < 2 ^ 32 - 1 → (x : Option V) → option_map value x ≡ machine_after locate before → IfSome x (λ v. (value v).steps < 2 ^ 32 - 1)
    few_in few None is = tt
    few_in few (Some v) is =
        let steps : (value v).steps ≡ length before = ap steps_in is ∙ steps_after locate before in
        omega (arith, few, steps, own_few locate (payloads_in messages), length-map messages (λ (m : ℕ × List ℕ). m.1))

    -- what the machine's calls ask for
    pub same_before : (x : Option V) → x ≡ get_or slots (locate / 128) x → IfSome x (λ v. (value v).locate ≡ locate)
    same_before x is = same_in x (found_is x is) before refl

    pub few_before : length messages < 2 ^ 32 - 1 → (x : Option V) → x ≡ get_or slots (locate / 128) x → IfSome x (λ v. (value v).steps < 2 ^ 32 - 1)
    few_before few x is = few_in few x (found_is x is)

    -- another stock of the batch has no message more
    others : (slot : ℕ) → slot ≢ locate / 128 → is_of_stock (locate_at batch slot) payload ≡ false
    others slot differ = ap (is_locate (locate_at batch slot)) own ∙ ne_eqb locate (locate_at batch slot) (λ e. differ (omega (arith, e, remainder, mod_below locate 128 (omega arith))))

    -- the batch after the message
    pub done_more : (n : ℕ) (x y : Option V) (outcome : Outcome) (now : List RefusedMessage) → x ≡ get_or slots (locate / 128) x
        → outcome ≡ outcome_in (option_map value x) payload
        → option_map value y ≡ Some (stepped locate (option_map value x) payload)
        → now ≡ refused ++ if_refused n (Some locate) outcome
        → HasDone batch (messages ++ (n, payload) ∷ []) (state_of value (set slots (locate / 128) y) now failed)
    done_more n x y outcome now is becomes takes notes =
        let day = payloads_in messages in
        let found = found_is x is in
        let whole = payloads_in-push messages n payload in
        let i = locate / 128 in
        record {
          machines_are = λ slot d lt.
              rw (map-set (option_map value) slots i y, whole, stock_day-push day payload (locate_at batch slot))
              (elim (cases_eq slot i) [
                | inl same ↦
                    let at : locate_at batch slot ≡ locate = ap (locate_at batch) same ∙ here in
                    let mine : is_of_stock locate payload ≡ true = is_own_part locate (part payload) own in
                    rw (same, here, mine)
                    (get_or-set_same (map (option_map value) slots) i (option_map value y) d (omega (arith, below, long, length-map slots (option_map value)))
                    ∙ takes ∙ ap (λ (m : Option StockMachine). Some (stepped locate m payload)) found ∙ sym (machine-push locate before payload))
                | inr differ ↦
                    rw (others slot differ, append-nil (stock_day day (locate_at batch slot)))
                    (get_or-set_other (map (option_map value) slots) i slot (option_map value y) d differ ∙ done.machines_are slot d lt)
              ]);
          refused_are =
              notes ∙ ap (λ (ps : List RefusedMessage). ps ++ if_refused n (Some locate) outcome) done.refused_are
              ∙ ap (λ (p : Part). refused_from empty_world messages ++ if_refused n (stock_of p) outcome) (sym own)
              ∙ ap (λ (o : Outcome). refused_from empty_world messages ++ if_refused n (stock_of (part payload)) o) (becomes ∙ ap (λ (m : Option StockMachine). outcome_in m payload) found ∙ sym (outcome_own day payload locate own))
              ∙ sym (refused_from-push empty_world messages n payload);
        }

-- ---- before the first message

no_own : (locate : ℕ) → stock_day [] locate ≡ []
unfolding stock_day
no_own locate = refl

pub none_done : (V : Type 0) (value : V → StockMachine) (batch : ℕ) (slots : List (Option V)) (refused : List RefusedMessage) (failed : Bool) → length slots ≡ 512 → All (λ s. s ≡ None) slots → refused ≡ [] → HasDone batch [] (state_of value slots refused failed)
none_done V value batch slots refused failed long none nothing = record {
  machines_are = λ slot d lt.
      get_or-map (option_map value) slots slot None d (omega (arith, lt, long)) ∙ ap (option_map value) (none slot None (omega (arith, lt, long)))
      ∙ sym (ap (machine_after (locate_at batch slot)) (no_own (locate_at batch slot)));
  refused_are = nothing;
}

-- ---- where there was no error

pub on_ok : {T E : Type 0} {P Q : Type 0} (r : Result T E) → OnOk r P → (P → Q) → OnOk r Q
on_ok (Ok x) p f = f p
on_ok (Err e) p f = tt

pub not_err : {T E : Type 0} {P : Type 0} (r : Result T E) → is_err r ≡ false → OnOk r P → P
not_err (Ok x) fine p = p
not_err (Err e) fine p = let never : ⊥ = cc in absurd never

-- ---- one element of a list

pub all_at : {X : Type 0} (P : X → Type 0) (xs : List X) (x : X) (ys : List X) → All P (xs ++ x ∷ ys) → P x
all_at P [] x ys all = All-head P x ys all
all_at P (y ∷ xs) x ys all = all_at P xs x ys (All-tail P y (xs ++ x ∷ ys) all)

pub split_next : {X : Type 0} (xs done left rest : List X) (x : X) → xs ≡ done ++ left → left ≡ x ∷ rest → xs ≡ (done ++ x ∷ []) ++ rest
split_next {X} xs done left rest x split next = split ∙ ap (λ (l : List X). done ++ l) next ∙ sym (append_assoc done (x ∷ []) rest)

pub split_long : {X : Type 0} (xs done left rest : List X) (x : X) → xs ≡ done ++ left → left ≡ x ∷ rest → length done + 1 ≤ length xs
split_long xs done left rest x split next = omega (arith, ap length split, length-append done left, ap length next)

pub split_at_end : {X : Type 0} (xs done left : List X) → xs ≡ done ++ left → left ≡ [] → done ≡ xs
split_at_end {X} xs done left split end = sym (split ∙ ap (λ (l : List X). done ++ l) end ∙ append-nil done)

pub next_of : {X : Type 0} (P : X → Type 0) (xs done left rest : List X) (x : X) → xs ≡ done ++ left → left ≡ x ∷ rest → All P xs → P x
next_of {X} P xs done left rest x split next all = all_at P done x rest (subst (All P) (split ∙ ap (λ (l : List X). done ++ l) next) all)

-- a list whose items are written back in their places
pub written_back : {X : Type 0} (xs rest : List X) (n : ℕ) → length xs ≡ n → take n (xs ++ rest) ≡ xs
written_back xs rest n long = subst (λ (m : ℕ). take m (xs ++ rest) ≡ xs) long (take-append_seam xs rest)
