-- A worker of a day: before its first message, one message later, and after its last.
use Rattle.std.proofs.Common.{◌≡◌, ◌≢◌, ℕ, ◌+◌, ◌^◌, ◌<◌, ◌≤◌, List, All, length, eqb, get_or, set, map, MatchOption, None, Option, Some, refl, sym, ap, ap₂, subst, ◌∙◌, arith}
use Rattle.std.specs.Prelude.{IfSome, IsSome}
use Rattle.std.specs.List.{Contains}
use Rattle.std.specs.List.Sorted.{IsStrictlyIncreasing}
use Rattle.std.proofs.lemmas.Bool.{eq-eqb}
use Rattle.std.proofs.lemmas.List.Kept.{IsStrictlyIncreasing-filter}
use Rattle.std.proofs.Math.Seq.{map-set_same}
use Rattle.std.proofs.lemmas.List.{get_or-map, length-map, map-set}
use Rattle.itch_table.specs.declared.order.Top.{Top}
use Rattle.itch_table.specs.Levels.{top}
use Rattle.itch_table.specs.Shows.{top_after}
use Rattle.itch_table.specs.World.{orders_of}
use Rattle.itch_table.proofs.DayLocates.{rising}
use Rattle.stock_machine.specs.StockRows.{StockMachine}
use Rattle.day_core.specs.declared.merging.Piece.{Piece}
use Rattle.day_core.specs.declared.parts.Next.{Next}
use Rattle.day_core.specs.Owners.{IsDue, IsNext, MayAddRow, last_message, locates_by, machine_of, new_machine, own_of, owner, piece_of, progress}
use Rattle.day_core.specs.Replaying.{last_machine}
use Rattle.day_core.specs.Splitting.{ArePartsOf, DayParts}
use Rattle.day_core.proofs.LocateCodes.{code_owner, value_at, value_set, values_long}
use Rattle.day_core.proofs.FilteredRanges.{kept_member, map_same}
use Rattle.day_core.proofs.MachineSteps.{machine_first, top_is, due, mine, next_listed, next_within, reached, stayed}
use Rattle.day_core.proofs.Progress.{own_few, machine_last, progress_first, progress_last, progress_rises}
use Rattle.top_cell.specs.Boards.{CellId, IsOn, WriterAt}
use Rattle.stock_workers.specs.Working.{HasTurned, IsWorkerOf, MayGrowNext, Working, WriterState, WritersAt, codes_by, codes_of, first_working, messages_of, places_of, progress_in, stands, writer_state}

-- a worker of these parts
abbrev pub working : DayParts → ℕ → ℕ → List StockMachine → List WriterAt → Working
working parts worker done stocks writers = record { parts = parts; worker = worker; done = done; stocks = stocks; writers = writers }

pub own_codes_are : (parts : DayParts) (workers worker : ℕ) (locates codes : List ℕ) → workers ≡ parts.workers → locates ≡ parts.locates → codes ≡ locates_by workers worker locates → codes ≡ codes_by parts worker
own_codes_are parts workers worker locates codes same listed is = is ∙ ap₂ (λ (n : ℕ) (ls : List ℕ). locates_by n worker ls) same listed

codes_rise : (day : List (List ℕ)) (w : Working) → ArePartsOf day w.parts → IsStrictlyIncreasing (codes_of w)
codes_rise day w parts = IsStrictlyIncreasing-filter (λ l. eqb (owner w.parts.workers l) w.worker) w.parts.locates (subst IsStrictlyIncreasing (sym parts.locates_are) (rising day))

-- before the first message
pub first_stands : (day : List (List ℕ)) (parts : DayParts) (worker : ℕ) (writers : List WriterAt) → ArePartsOf day parts → WritersAt day (λ _. 0) (codes_by parts worker) writers
    → IsWorkerOf day (first_working parts worker writers)
first_stands day parts worker writers parts_are fresh =
    let first : Working = first_working parts worker writers in
    record {
      parts_are = parts_are;
      within = omega arith;
      stocks_are =
          map_same new_machine (λ l. machine_of day l (progress_in day first l)) (codes_of first)
          (λ k lt. let l = get_or (codes_of first) k 0 in sym (ap (machine_of day l) (progress_first day parts.workers l) ∙ machine_first day l));
      writers_are =
          fresh
          ∙ map_same (λ l. let z : WriterState = record { day = day; locate = l; message = 0 } in z) (stands day first) (codes_of first)
          (λ k lt. let l = get_or (codes_of first) k 0 in ap (λ (n : ℕ). let z : WriterState = record { day = day; locate = l; message = n } in z) (sym (progress_first day parts.workers l)));
    }

-- what there is at an index
pub got : {X V : Type 0} (N : Type 0) (now : X → V) (xs : List V) (i : ℕ) (r : Option X) (Q : X → Type 0) → IsSome r → IfSome r (λ x. now x ≡ get_or xs i (now x)) → ((x : X) → now x ≡ get_or xs i (now x) → Q x) → MatchOption r N Q
got N now xs i None Q some at each = let never : ⊥ = cc in absurd never
got N now xs i (Some x) Q some at each = each x at

-- ---- one of its stocks, which stands at a place among them

module _ (day : List (List ℕ)) (w : Working) (is : IsWorkerOf day w) (place locate : ℕ) (found : (place < length (codes_of w)) × (get_or (codes_of w) place 0 ≡ locate)) where
  abbrev machine : ℕ → StockMachine
  machine l = machine_of day l (progress_in day w l)

  pub stocks_long : place < length w.stocks
  stocks_long = values_long (codes_of w) machine w.stocks is.stocks_are place locate found

  pub writers_long : place < length w.writers
  writers_long = omega (arith, values_long (codes_of w) (stands day w) (map writer_state w.writers) is.writers_are place locate found, length-map w.writers writer_state)

  pub stock_stands : (m : StockMachine) → m ≡ get_or w.stocks place m → m ≡ machine_of day locate (progress_in day w locate)
  stock_stands m at = at ∙ value_at (codes_of w) machine w.stocks is.stocks_are place locate found m

  pub writer_stands : (t : WriterAt) → t ≡ get_or w.writers place t → writer_state t ≡ stands day w locate
  writer_stands t at =
      ap writer_state at ∙ sym (get_or-map writer_state w.writers place t (writer_state t) writers_long)
      ∙ value_at (codes_of w) (stands day w) (map writer_state w.writers) is.writers_are place locate found (writer_state t)

-- ---- its next message

-- there is none where it has done all of them
pub through : {day : List (List ℕ)} {w : Working} → IsWorkerOf day w → length (messages_of day w) ≤ w.done → w.done ≡ length (messages_of day w)
through {day} {w} is past = omega (arith, is.within, past)

-- its stock is one of the worker's
pub own_listed : {day : List (List ℕ)} {w : Working} {next : Next} → IsWorkerOf day w → IsNext day w.parts.workers w.worker w.done next → Contains (codes_of w) next.locate
own_listed {day} {w} {next} is to = kept_member (λ l. eqb (owner w.parts.workers l) w.worker) w.parts.locates next.locate (next_listed is.parts_are to) (eq-eqb _ _ (mine to))

-- it stands at this place among them
pub record Comes (day : List (List ℕ)) (w : Working) (place : ℕ) (next : Next) : Type 0 where
  pub is : IsWorkerOf day w
  pub to : IsNext day w.parts.workers w.worker w.done next
  pub found : (place < length (codes_of w)) × (get_or (codes_of w) place 0 ≡ next.locate)

pub comes : {day : List (List ℕ)} {w v : Working} {place : ℕ} {next : Next} → w ≡ v → IsWorkerOf day v → IsNext day w.parts.workers w.worker w.done next
    → (place < length (codes_of v)) × (get_or (codes_of v) place 0 ≡ next.locate) → Comes day w place next
comes {day} {w} {v} {place} {next} same is to found = record {
  is = subst (IsWorkerOf day) (sym same) is;
  to = to;
  found = subst (λ (k : Working). (place < length (codes_of k)) × (get_or (codes_of k) place 0 ≡ next.locate)) (sym same) found;
}

module _ {day : List (List ℕ)} {w : Working} {place : ℕ} {next : Next} (come : Comes day w place next) where
  pub few_done : w.done < 2 ^ 32
  few_done = omega (arith, come.to.more, own_few w.parts.workers w.worker day, come.is.parts_are.few)

  pub may_grow : MayAddRow day next.message → MayGrowNext day w
  may_grow adds = record { more = come.to.more; adds = subst (MayAddRow day) come.to.message_is adds }

  -- the machine that takes it
  module _ (m : StockMachine) (at : m ≡ get_or w.stocks place m) where
    stood : m ≡ machine_of day next.locate (progress_in day w next.locate)
    stood = stock_stands day w come.is place next.locate come.found m at

    pub due_there : IsDue day next.message m
    due_there = due come.to m stood

    pub machine_then : (after : StockMachine) → after ≡ machine_of day m.locate next.message → after ≡ machine_of day next.locate next.message
    machine_then after is = is ∙ ap (λ (k : StockMachine). machine_of day k.locate next.message) stood

  -- the writer that shows it
  module _ (t : WriterAt) (at : t ≡ get_or w.writers place t) where
    shown : writer_state t ≡ stands day w next.locate
    shown = writer_stands day w come.is place next.locate come.found t at

    pub own_board : (board : List CellId) → All (IsOn board) (places_of w) → IsOn board t.place
    own_board board on =
        let long = writers_long day w come.is place next.locate come.found in
        subst (IsOn board) (get_or-map (λ (v : WriterAt). v.place) w.writers place t t.place long ∙ ap (λ (v : WriterAt). v.place) (sym at))
        (on place t.place (omega (arith, long, length-map w.writers (λ (v : WriterAt). v.place))))

    pub later : t.message ≤ next.message
    later = omega (arith, ap (λ (z : WriterState). z.message) shown, reached come.to, progress_rises day w.parts.workers next.locate w.done (w.done + 1) (omega arith))

    same_day : t.place.day ≡ day
    same_day = ap (λ (z : WriterState). z.day) shown

    same_stock : t.place.locate ≡ next.locate
    same_stock = ap (λ (z : WriterState). z.locate) shown

    pub within_day : next.message ≤ length t.place.day
    within_day = omega (arith, (next_within come.to).1, ap length same_day)

    pub top_there : (m : StockMachine) (best : Top) → m ≡ machine_of day next.locate next.message → best ≡ top (orders_of m.world m.locate) → best ≡ top_after t.place.day t.place.locate next.message
    top_there m best stepped is =
        is ∙ top_is day next.locate next.message m stepped ∙ ap₂ (λ (d : List (List ℕ)) (l : ℕ). top_after d l next.message) (sym same_day) (sym same_stock)

    -- after it
    module _ (m : StockMachine) (new : WriterAt) (stepped : m ≡ machine_of day next.locate next.message) (published : new ≡ record t { message = next.message }) where
      abbrev then : Working
      then = record w { done = w.done + 1; stocks = set w.stocks place m; writers = set w.writers place new }

      others : (k : ℕ) → k < length (codes_of w) → get_or (codes_of w) k 0 ≢ next.locate → progress_in day then (get_or (codes_of w) k 0) ≡ progress_in day w (get_or (codes_of w) k 0)
      others k lt differ = stayed come.to (get_or (codes_of w) k 0) (code_owner w.parts.workers w.worker w.parts.locates k 0 lt) differ

      state : writer_state new ≡ stands day then next.locate
      state =
          ap writer_state published
          ∙ (λ i. let z : WriterState = record { day = same_day i; locate = same_stock i; message = sym (reached come.to) i } in z)

      stands_then : IsWorkerOf day then
      stands_then =
          let rises = codes_rise day w come.is.parts_are in
          record {
            parts_are = come.is.parts_are;
            within = omega (arith, come.to.more);
            stocks_are =
                value_set (codes_of w) (λ l. machine_of day l (progress_in day w l)) w.stocks come.is.stocks_are place next.locate come.found (λ l. machine_of day l (progress_in day then l)) m rises
                (stepped ∙ ap (machine_of day next.locate) (sym (reached come.to))) (λ k lt differ. ap (machine_of day (get_or (codes_of w) k 0)) (others k lt differ));
            writers_are =
                map-set writer_state w.writers place new
                ∙ value_set (codes_of w) (stands day w) (map writer_state w.writers) come.is.writers_are place next.locate come.found (stands day then) (writer_state new) rises state
                (λ k lt differ. ap (λ (j : ℕ). let z : WriterState = record { day = day; locate = get_or (codes_of w) k 0; message = j } in z) (others k lt differ));
          }

      pub turned : (piece : Piece) → piece ≡ piece_of day next.message → HasTurned day w then piece
      turned piece is = record {
        more = come.to.more;
        piece_is = is ∙ ap (piece_of day) come.to.message_is;
        same_parts = refl;
        same_worker = refl;
        moved = refl;
        same_places = map-set_same (λ (v : WriterAt). v.place) w.writers place new t (ap (λ (v : WriterAt). v.place) (published ∙ ap (λ (v : WriterAt). let z : WriterAt = record v { message = next.message } in z) at));
        stands = stands_then;
      }

-- ---- after the last message

module _ (day : List (List ℕ)) (w : Working) (is : IsWorkerOf day w) (all : w.done ≡ length (messages_of day w)) where
  far_last : (k : ℕ) → k < length (codes_of w)
      → progress_in day w (get_or (codes_of w) k 0)
      ≡ progress day w.parts.workers (get_or (codes_of w) k 0) (length (own_of w.parts.workers (owner w.parts.workers (get_or (codes_of w) k 0)) day))
  far_last k lt =
      ap (progress day w.parts.workers (get_or (codes_of w) k 0)) (all ∙ ap (λ (j : ℕ). length (own_of w.parts.workers j day)) (sym (code_owner w.parts.workers w.worker w.parts.locates k 0 lt)))

  pub last_stocks : w.stocks ≡ map (last_machine day) (codes_of w)
  last_stocks =
      is.stocks_are ∙ map_same (λ l. machine_of day l (progress_in day w l)) (last_machine day) (codes_of w) (λ k lt.
      let l = get_or (codes_of w) k 0 in
      ap (machine_of day l) (far_last k lt) ∙ machine_last day w.parts.workers l)

  pub last_writers : WritersAt day (last_message day) (codes_of w) w.writers
  last_writers =
      is.writers_are ∙ map_same (stands day w) (λ l. let z : WriterState = record { day = day; locate = l; message = last_message day l } in z) (codes_of w) (λ k lt.
      let l = get_or (codes_of w) k 0 in
      ap (λ (n : ℕ). let z : WriterState = record { day = day; locate = l; message = n } in z) (far_last k lt ∙ progress_last day w.parts.workers l))
