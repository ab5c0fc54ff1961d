-- A turn of one of a day's workers: how far each stock is after it, and what is kept.
use Rattle.std.proofs.Common.{◌≡◌, ◌≢◌, ℕ, zero, suc, ◌+◌, ◌<◌, ◌≤◌, List, [], ◌∷◌, length, get_or, set, map, replicate, refl, sym, ap, subst, ◌∙◌, arith, inl, inr}
use Rattle.std.proofs.lemmas.Bool.{cases_eq, cases_Bool, cases_lt}
use Rattle.std.proofs.lemmas.List.{get_or_default, get_or-set_same, get_or-set_other, length-map, length-replicate, length-set}
use Rattle.std.specs.List.{Contains}
use Rattle.std.specs.List.Sorted.{IsStrictlyIncreasing}
use Rattle.itch_table.specs.Shows.{locates_of_day, Shows}
use Rattle.itch_table.proofs.DayLocates.{rising}
use Rattle.itch_table.proofs.Tops.{top_after-none}
use Rattle.itch_table.specs.Projection.{is_locate}
use Rattle.itch_table.proofs.StockDays.{own_part}
use Rattle.stock_machine.specs.StockRows.{StockMachine}
use Rattle.day_core.specs.declared.parts.Next.{Next}
use Rattle.day_core.specs.Owners.{IsDue, IsNext, MayAddRow, machine_of, new_machine, own_of, owner, progress, part_at}
use Rattle.day_core.specs.Splitting.{ArePartsOf, DayParts}
use Rattle.day_core.specs.Turns.{AreTurns, MayGrowAt, TurnsState, messages_of, progress_in, state_of, words_at, workers_of, shown}
use Rattle.day_core.proofs.LocateCodes.{same_code, code_there, value_at, value_set, values_long}
use Rattle.day_core.proofs.FilteredRanges.{all_same, map_same}
use Rattle.day_core.proofs.MachineSteps.{machine_first, due, mine, reached, stayed}
use Rattle.day_core.proofs.Progress.{progress_first, own_within, past_end, progress_next, progress_within}

-- a worker comes to a message, whose stock stands at this place among those of the day
pub record Comes (turns : TurnsState) (parts : DayParts) (stocks : List StockMachine) (cells : List (List ℕ)) (worker place : ℕ) (next : Next) : Type 0 where
  pub are : AreTurns turns parts stocks cells
  pub one : worker < workers_of turns
  pub is : IsNext turns.day (workers_of turns) worker (get_or turns.done worker 0) next
  pub found : (place < length parts.locates) × (get_or parts.locates place 0 ≡ next.locate)

pub comes : {turns : TurnsState} {parts : DayParts} {stocks : List StockMachine} {cells : List (List ℕ)} {worker place : ℕ} {next : Next} → AreTurns turns parts stocks cells → worker < workers_of turns
    → (done : ℕ) → done ≡ get_or turns.done worker done → IsNext turns.day parts.workers worker done next → (place < length parts.locates) × (get_or parts.locates place 0 ≡ next.locate)
    → Comes turns parts stocks cells worker place next
comes {turns} {worker = worker} are one done done_is is found =
    let far : done ≡ get_or turns.done worker 0 = done_is ∙ get_or_default turns.done worker done 0 one in
    record { are = are; one = one; is = rw (are.long, ← far) is; found = found }

-- or has done all of its messages
pub all_done : {turns : TurnsState} {parts : DayParts} {stocks : List StockMachine} {cells : List (List ℕ)} {worker : ℕ} → AreTurns turns parts stocks cells → worker < workers_of turns
    → (done : ℕ) → done ≡ get_or turns.done worker done → length (own_of parts.workers worker turns.day) ≤ done → get_or turns.done worker 0 ≡ length (messages_of turns worker)
all_done {turns} {parts} {stocks} {cells} {worker} are one done done_is past =
    omega (arith, are.within worker one, done_is, get_or_default turns.done worker done 0 one, past, ap (λ (k : ℕ). length (own_of k worker turns.day)) are.long)

module _ {turns : TurnsState} {parts : DayParts} {stocks : List StockMachine} {cells : List (List ℕ)} {worker place : ℕ} {next : Next} (come : Comes turns parts stocks cells worker place next) where
  abbrev day : List (List ℕ)
  day = turns.day

  abbrev workers : ℕ
  workers = workers_of turns

  abbrev done : ℕ
  done = get_or turns.done worker 0

  abbrev moved : TurnsState
  moved = state_of day (set turns.done worker (done + 1))

  abbrev machine : ℕ → StockMachine
  machine l = machine_of day l (progress_in turns l)

  abbrev words : ℕ → List ℕ
  words l = words_at day l (progress_in turns l)

  pub stocks_long : place < length stocks
  stocks_long = values_long parts.locates machine stocks come.are.stocks_are place next.locate come.found

  pub cells_long : place < length cells
  cells_long = values_long parts.locates words cells come.are.cells_are place next.locate come.found

  -- its stock is its own, and stands where its messages have left it
  stands : progress_in turns next.locate ≡ progress day workers next.locate done
  stands = ap (λ (w : ℕ). progress day workers next.locate (get_or turns.done w 0)) (mine come.is)

  pub due_there : (m : StockMachine) → m ≡ get_or stocks place m → IsDue day next.message m
  due_there m at = due come.is m (at ∙ value_at parts.locates machine stocks come.are.stocks_are place next.locate come.found m ∙ ap (machine_of day next.locate) stands)

  -- which it leaves as the message says
  pub machine_then : (m after : StockMachine) → m ≡ get_or stocks place m → after ≡ machine_of day m.locate next.message → after ≡ machine_of day next.locate next.message
  machine_then m after at is = is ∙ ap (λ (l : ℕ). machine_of day l next.message) (same_code (sym (due_there m at).own ∙ come.is.stock_is))

  pub may_grow : MayAddRow day next.message → MayGrowAt turns worker
  may_grow adds = record { one = come.one; more = come.is.more; adds = subst (MayAddRow day) come.is.message_is adds }

  -- ---- after it

  far : (l : ℕ) → progress_in moved l ≡ progress day workers l (get_or (set turns.done worker (done + 1)) (owner workers l) 0)
  far l = ap (λ (w : ℕ). progress day w l (get_or (set turns.done worker (done + 1)) (owner w l) 0)) (length-set turns.done worker (done + 1))

  own_then : (l : ℕ) → owner workers l ≡ worker → progress_in moved l ≡ progress day workers l (done + 1)
  own_then l same =
      far l ∙ ap (progress day workers l) (ap (λ (w : ℕ). get_or (set turns.done worker (done + 1)) w 0) same ∙ get_or-set_same turns.done worker (done + 1) 0 come.one)

  here : progress_in moved next.locate ≡ next.message
  here = own_then next.locate (mine come.is) ∙ reached come.is

  others : (l : ℕ) → l ≢ next.locate → progress_in moved l ≡ progress_in turns l
  others l differ = elim (cases_eq (owner workers l) worker) [
    | inl same ↦ own_then l same ∙ stayed come.is l same differ ∙ sym (ap (λ (w : ℕ). progress day workers l (get_or turns.done w 0)) same)
    | inr apart ↦ far l ∙ ap (progress day workers l) (get_or-set_other turns.done worker (owner workers l) (done + 1) 0 apart)
  ]

  within_moved : (w : ℕ) → w < workers_of moved → get_or moved.done w 0 ≤ length (messages_of moved w)
  within_moved w lt =
      let same : length (messages_of moved w) ≡ length (messages_of turns w) = ap (λ (k : ℕ). length (own_of k w day)) (length-set turns.done worker (done + 1)) in
      elim (cases_eq w worker) [
        | inl it ↦
            let now : get_or moved.done w 0 ≡ done + 1 = ap (λ (k : ℕ). get_or moved.done k 0) it ∙ get_or-set_same turns.done worker (done + 1) 0 come.one in
            omega (arith, now, ap (λ (k : ℕ). length (messages_of turns k)) it, same, come.is.more)
        | inr apart ↦ omega (arith, get_or-set_other turns.done worker w (done + 1) 0 apart, come.are.within w (omega (arith, lt, length-set turns.done worker (done + 1))), same)
      ]

  pub turns_then : (m : StockMachine) (new : List ℕ) → m ≡ machine_of day next.locate next.message → new ≡ words_at day next.locate next.message → AreTurns moved parts (set stocks place m) (set cells place new)
  turns_then m new now shows =
      let rises = subst IsStrictlyIncreasing (sym come.are.parts_are.locates_are) (rising day) in
      record {
        parts_are = come.are.parts_are;
        long = length-set turns.done worker (done + 1) ∙ come.are.long;
        within = within_moved;
        stocks_are =
            value_set parts.locates machine stocks come.are.stocks_are place next.locate come.found (λ l. machine_of day l (progress_in moved l)) m rises (now ∙ ap (machine_of day next.locate) (sym here))
            (λ k lt differ. ap (machine_of day (get_or parts.locates k 0)) (others _ differ));
        cells_are =
            value_set parts.locates words cells come.are.cells_are place next.locate come.found (λ l. words_at day l (progress_in moved l)) new rises (shows ∙ ap (words_at day next.locate) (sym here))
            (λ k lt differ. ap (words_at day (get_or parts.locates k 0)) (others _ differ));
      }

-- ---- before the first turn

none_done : (count k : ℕ) → ◌≡◌ {A = ℕ} (get_or (replicate count 0) k 0) 0
none_done zero k = refl
none_done (suc count) zero = refl
none_done (suc count) (suc k) = none_done count k

module _ (day : List (List ℕ)) (parts : DayParts) (stocks : List StockMachine) (cells : List (List ℕ)) (parts_are : ArePartsOf day parts) (made : stocks ≡ map new_machine parts.locates)
    (zeros : cells ≡ replicate (length stocks) (0 ∷ 0 ∷ 0 ∷ 0 ∷ [])) where
  abbrev first : TurnsState
  first = state_of day (replicate parts.workers 0)

  nowhere : (locate : ℕ) → progress_in first locate ≡ 0
  nowhere locate = ap (progress day (workers_of first) locate) (none_done parts.workers (owner (workers_of first) locate)) ∙ progress_first day (workers_of first) locate

  no_words : (locate : ℕ) → words_at day locate (progress_in first locate) ≡ 0 ∷ 0 ∷ 0 ∷ 0 ∷ []
  no_words locate = rw (nowhere locate, top_after-none day locate) refl

  pub turns_first : AreTurns first parts stocks cells
  turns_first = record {
    parts_are = parts_are;
    long = length-replicate parts.workers 0;
    within = λ worker lt. omega (arith, none_done parts.workers worker);
    stocks_are =
        made ∙ map_same new_machine (λ l. machine_of day l (progress_in first l)) parts.locates
        (λ k lt. let l = get_or parts.locates k 0 in sym (ap (machine_of day l) (nowhere l) ∙ machine_first day l));
    cells_are =
        zeros ∙ ap (λ (n : ℕ). replicate n (0 ∷ 0 ∷ 0 ∷ 0 ∷ [])) (ap length made ∙ length-map parts.locates new_machine)
        ∙ all_same (λ l. words_at day l (progress_in first l)) (0 ∷ 0 ∷ 0 ∷ 0 ∷ []) no_words parts.locates;
  }

-- ---- what a look shows of a stock

pub shows_progress : (day : List (List ℕ)) (workers locate done : ℕ) → Shows day locate (progress day workers locate done) (shown day workers locate done)
shows_progress day workers locate done = (progress_within day workers locate done, refl)

-- a stock of no message has come nowhere
progress_absent : (day : List (List ℕ)) (workers locate done : ℕ) → locate < 0x1_0000 → ¬ Contains (locates_of_day day) locate → progress day workers locate done ≡ 0
progress_absent day workers locate zero fits absent = progress_first day workers locate
progress_absent day workers locate (suc done) fits absent = subst (λ (k : ℕ). progress day workers locate k ≡ 0) (omega arith) (more (progress_absent day workers locate done fits absent))
  where
    more : progress day workers locate done ≡ 0 → progress day workers locate (done + 1) ≡ 0
    more before =
        let own = own_of workers (owner workers locate) day in
        elim (cases_lt done (length own)) [
          | inl lt ↦
              let within = own_within workers (owner workers locate) day done 0 lt in
              progress_next day workers locate done 0 lt ∙ elim (cases_Bool (is_locate locate (part_at day (get_or own done 0)))) [
                | inl on ↦ absurd (absent (code_there day (get_or own done 0) locate within.0 within.1 fits (own_part locate _ on)))
                | inr off ↦ rw off before
              ]
          | inr past ↦ past_end day workers locate done past ∙ before
        ]

pub shows_absent : (day : List (List ℕ)) (workers locate done : ℕ) → locate < 0x1_0000 → ¬ Contains (locates_of_day day) locate → Shows day locate (progress day workers locate done) (0 ∷ 0 ∷ 0 ∷ 0 ∷ [])
shows_absent day workers locate done fits absent =
    let none = progress_absent day workers locate done fits absent in
    rw (none, top_after-none day locate) (omega arith, refl)
