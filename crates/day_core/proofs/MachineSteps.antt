-- A stock's machine, one message of its stock more, and a worker's next message.
use Rattle.std.proofs.Common.{◌≡◌, ℕ, zero, suc, ◌+◌, ◌-◌, ◌^◌, ◌<◌, ◌≤◌, List, [], length, Bool, true, false, cond, get_or, Some, Result, Ok, Err, refl, sym, ap, subst, ◌∙◌, arith, ◌≢◌, Option, None, rules}
use Rattle.std.specs.Prelude.{IsTrue, OnErr, IsSome, MatchOption}
use Rattle.std.proofs.lemmas.List.{get_or_default}
use Rattle.std.specs.List.{Contains}
use Rattle.std.proofs.lemmas.Bool.{eqb-true, ne_eqb}
use Rattle.itch_layouts.specs.Shapes.{shape_of}
use Rattle.itch_table.specs.declared.outcome.Outcome.{Outcome}
use Rattle.itch_table.specs.declared.outcome.Part.TheVariants.{Locate}
use Rattle.itch_table.specs.After.{after, outcome}
use Rattle.itch_table.specs.Held.{one_stock}
use Rattle.itch_table.specs.Levels.{top}
use Rattle.itch_table.specs.Machine.{MayGrow, shape_adds_row}
use Rattle.itch_table.specs.Parts.{part}
use Rattle.itch_table.specs.Projection.{is_of_stock, only, payload_at, steps_of, is_locate}
use Rattle.itch_table.specs.Shows.{top_after}
use Rattle.itch_table.specs.Table.{step}
use Rattle.itch_table.specs.World.{World, empty_world, orders_of}
use Rattle.itch_table.proofs.Days.{after-none}
use Rattle.itch_table.proofs.StockDays.{is_own_part, only-empty, own_next, steps-next, steps-none}
use Rattle.itch_table.proofs.Tops.{top_after-only}
use Rattle.stock_machine.specs.StockRows.{StockMachine}
use Rattle.day_core.specs.Owners.{IsDue, MayAddRow, machine_of, new_machine, part_at, IsNext, is_own, own_of, owner, progress}
use Rattle.day_core.proofs.LocateCodes.{same_code, code_there, own_code}
use Rattle.day_core.specs.declared.parts.Next.{Next}
use Rattle.day_core.specs.Splitting.{ArePartsOf, DayParts}
use Rattle.day_core.proofs.DealtDay.{own_is}
use Rattle.day_core.proofs.Progress.{machine_next, own_passes, own_within, progress_next}

-- a message of the day
pub payload_is : (day : List (List ℕ)) (n : ℕ) (payload : List ℕ) → 1 ≤ n → n ≤ length day → payload ≡ get_or day (n - 1) payload → payload ≡ payload_at day n
payload_is day n payload some within is = is ∙ get_or_default day (n - 1) payload [] (omega (arith, some, within))

pub new_is : (m : StockMachine) (locate : ℕ) → m.locate ≡ locate → m.world ≡ empty_world → m.steps ≡ 0 → m ≡ new_machine locate
new_is m locate code world steps = λ i. record { locate = code i; world = world i; steps = steps i }

pub machine_first : (day : List (List ℕ)) (locate : ℕ) → machine_of day locate 0 ≡ new_machine locate
machine_first day locate = new_is _ locate refl (ap (only locate) (after-none day) ∙ only-empty locate) (steps-none day locate)

pub machine_stepped : (day : List (List ℕ)) (locate n : ℕ) (before m : StockMachine) (o : Outcome) → 1 ≤ n → part_at day n ≡ Locate locate → before ≡ machine_of day locate (n - 1)
    → m.locate ≡ before.locate → m.steps ≡ before.steps + 1 → (o, m.world) ≡ step before.world (payload_at day n)
    → (m ≡ machine_of day locate n) × (o ≡ outcome day n)
machine_stepped day locate n before m o some own is code steps gives =
    let up : n - 1 + 1 ≡ n = omega (arith, some) in
    let count : 1 + (n - 1) ≡ n = omega (arith, some) in
    let next : (o, m.world) ≡ (outcome day n, only locate (after day n)) =
    gives ∙ ap (λ (k : StockMachine). step k.world (payload_at day n)) is ∙ own_next day locate (n - 1) own
    ∙ rw (up, count) refl
    in
    let test : is_of_stock locate (payload_at day n) ≡ true = is_own_part locate _ own in
    let total : m.steps ≡ steps_of day locate n =
    steps ∙ ap (λ (k : StockMachine). k.steps + 1) is
    ∙ sym (ap (λ (k : ℕ). steps_of day locate k) (sym up) ∙ steps-next day locate (n - 1) ∙ ap (λ (b : Bool). steps_of day locate (n - 1) + cond b 1 0) test)
    in
    let same : m.locate ≡ locate = code ∙ ap (λ (k : StockMachine). k.locate) is in
    let world : m.world ≡ only locate (after day n) = ap (λ (r : Outcome × World). r.1) next in
    (λ i. record { locate = same i; world = world i; steps = total i }, ap (λ (r : Outcome × World). r.0) next)

-- a stock has no more messages than the day
pub steps_most : (day : List (List ℕ)) (locate n : ℕ) → steps_of day locate n ≤ n
steps_most day locate zero = omega (arith, steps-none day locate)
steps_most day locate (suc n) =
    subst (λ (k : ℕ). steps_of day locate k ≤ k) (omega arith) (most (is_of_stock locate (get_or day n [])) (steps_most day locate n) (steps-next day locate n))
  where
    most : (b : Bool) → steps_of day locate n ≤ n → steps_of day locate (n + 1) ≡ steps_of day locate n + cond b 1 0 → steps_of day locate (n + 1) ≤ n + 1
    most true before next = omega (arith, before, next)
    most false before next = omega (arith, before, next)

-- the best bid and ask of a stock's machine after a number of messages of a day
pub top_is : (day : List (List ℕ)) (locate n : ℕ) (m : StockMachine) → m ≡ machine_of day locate n → top (orders_of m.world m.locate) ≡ top_after day locate n
top_is day locate n m is = ap (λ (k : StockMachine). top (orders_of k.world k.locate)) is ∙ sym (top_after-only day locate n)

-- ---- a message that is due on its machine

module _ {day : List (List ℕ)} {n : ℕ} {m : StockMachine} (due : IsDue day n m) where
  pub few_due : n < 2 ^ 32 → m.steps < 2 ^ 32 - 1
  few_due few = omega (arith, few, due.some, ap (λ (k : StockMachine). k.steps) due.before, steps_most day m.locate (n - 1))

  module _ (payload : List ℕ) (read : payload ≡ get_or day (n - 1) payload) where
    here : payload ≡ payload_at day n
    here = payload_is day n payload due.some due.within read

    pub own_due : part payload ≡ Locate m.locate
    own_due = ap part here ∙ due.own

    pub done_due : (after : StockMachine) (o : Outcome) → after.locate ≡ m.locate → after.steps ≡ m.steps + 1 → (o, after.world) ≡ step m.world payload
        → (after ≡ machine_of day m.locate n) × (o ≡ outcome day n)
    done_due after o same steps gives = machine_stepped day m.locate n m after o due.some due.own due.before same steps (gives ∙ ap (step m.world) here)

    -- where the machine may need memory, so may the message
    pub grows_due : MayGrow (one_stock m.locate m.world) payload → MayAddRow day n
    grows_due may =
        let gave : (step m.world payload).0 ≡ outcome day n = (done_due (record m { world = (step m.world payload).1; steps = m.steps + 1 }) (step m.world payload).0 refl refl refl).1 in
        record {
          applied = sym gave ∙ may.applied;
          adds = λ other own.
              subst (λ (l : ℕ). IsTrue (shape_adds_row (Some l) (shape_of (payload_at day n)))) (same_code (sym due.own ∙ own))
              (subst (λ (p : List ℕ). IsTrue (shape_adds_row (Some m.locate) (shape_of p))) here may.adds);
        }

-- what holds anyway holds where there is an error
pub on_err : {T E : Type 0} (r : Result T E) (P : Type 0) → P → OnErr r P
on_err (Ok x) P p = tt
on_err (Err e) P p = p

-- ---- a worker's next message

module _ {day : List (List ℕ)} {workers worker done : ℕ} {next : Next} (is : IsNext day workers worker done next) where
  pub next_within : (1 ≤ next.message) × (next.message ≤ length day)
  next_within =
      let within = own_within workers worker day done 0 is.more in
      (omega (arith, within, is.message_is), omega (arith, within, is.message_is))

  pub mine : owner workers next.locate ≡ worker
  mine =
      eqb-true _ _
      (ap (is_own workers worker) (sym is.stock_is) ∙ ap (λ (n : ℕ). is_own workers worker (part_at day n)) is.message_is ∙ own_passes workers worker day done 0 is.more)

  -- one of its stocks after it
  after_it : (l : ℕ) → owner workers l ≡ worker → progress day workers l (done + 1) ≡ cond (is_locate l (part_at day next.message)) next.message (progress day workers l done)
  after_it l same =
      progress_next day workers l done 0 (rw same is.more)
      ∙ ap (λ (n : ℕ). cond (is_locate l (part_at day n)) n (progress day workers l done)) (ap (λ (w : ℕ). get_or (own_of workers w day) done 0) same ∙ sym is.message_is)

  -- that of the message has come as far as the message
  pub reached : progress day workers next.locate (done + 1) ≡ next.message
  reached = after_it next.locate mine ∙ ap (λ (b : Bool). cond b next.message (progress day workers next.locate done)) (is_own_part next.locate _ is.stock_is)

  -- and another stays where it is
  pub stayed : (other : ℕ) → owner workers other ≡ worker → other ≢ next.locate → progress day workers other (done + 1) ≡ progress day workers other done
  stayed other same differ =
      let off : is_locate other (part_at day next.message) ≡ false = rw is.stock_is (ne_eqb _ _ (λ e. differ (sym e))) in
      after_it other same ∙ ap (λ (b : Bool). cond b next.message (progress day workers other done)) off

  -- it is due on its stock's machine
  pub due : (m : StockMachine) → m ≡ machine_of day next.locate (progress day workers next.locate done) → IsDue day next.message m
  due m stands =
      let code : m.locate ≡ next.locate = ap (λ (k : StockMachine). k.locate) stands in
      let here : get_or (own_of workers (owner workers next.locate) day) done 0 ≡ next.message = ap (λ (w : ℕ). get_or (own_of workers w day) done 0) mine ∙ sym is.message_is in
      record {
        some = next_within.0;
        within = next_within.1;
        own = is.stock_is ∙ ap Locate (sym code);
        before =
            stands ∙ machine_next day workers next.locate done 0 (rw mine is.more) ∙ ap (λ (n : ℕ). machine_of day next.locate (n - 1)) here
            ∙ ap (λ (l : ℕ). machine_of day l (next.message - 1)) (sym code);
      }

-- ---- what a worker reads of its parts

module _ {day : List (List ℕ)} {parts : DayParts} (worker : ℕ) (are : ArePartsOf day parts) (own : List ℕ) (got : own ≡ get_or parts.own worker []) where
  pub own_read : own ≡ own_of parts.workers worker day
  own_read = got ∙ own_is day parts worker are

  module _ (done : ℕ) (below : done < length own) where
    pub more_read : done < length (own_of parts.workers worker day)
    more_read = omega (arith, below, ap length own_read)

    pub message_read : get_or own done 0 ≡ get_or (own_of parts.workers worker day) done 0
    message_read = ap (λ (ns : List ℕ). get_or ns done 0) own_read

    pub in_day : (1 ≤ get_or own done 0) × (get_or own done 0 ≤ length day)
    in_day =
        let within = own_within parts.workers worker day done 0 more_read in
        (omega (arith, within, message_read), omega (arith, within, message_read))

    pub payload_read : (payload : List ℕ) → payload ≡ get_or day (get_or own done 0 - 1) payload → payload ≡ payload_at day (get_or own done 0)
    payload_read payload read = payload_is day (get_or own done 0) payload in_day.0 in_day.1 read

    pub code_read : (payload : List ℕ) → payload ≡ get_or day (get_or own done 0 - 1) payload → (locate : ℕ) × (part payload ≡ Locate locate)
    code_read payload read =
        let found = own_code parts.workers worker _ (own_passes parts.workers worker day done 0 more_read) in
        (found.0, ap part (payload_read payload read) ∙ ap (part_at day) message_read ∙ found.1)

-- its stock is one of the day's
pub next_listed : {day : List (List ℕ)} {parts : DayParts} {worker done : ℕ} {next : Next} → ArePartsOf day parts → IsNext day parts.workers worker done next → Contains parts.locates next.locate
next_listed {day} {parts} {worker} {done} {next} are is =
    subst (λ (ls : List ℕ). Contains ls next.locate) (sym are.locates_are) (code_there day next.message next.locate (next_within is).0 (next_within is).1 is.fits is.stock_is)

-- so it is found
pub is_there : {P : Type 0} (Q : ℕ → Type 0) (o : Option ℕ) → P → MatchOption o (¬ P) Q → IsSome o
is_there Q None p absent = absurd (absent p)
is_there Q (Some x) p found = search rules
