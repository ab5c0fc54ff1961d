-- Schedules, one event more, and what their looks show.
use Rattle.std.proofs.Common.{◌≡◌, ◌≢◌, ℕ, ◌+◌, ◌<◌, ◌≤◌, List, [], ◌∷◌, ◌++◌, length, get_or, set, take, map, map-id, replicate, eqb, cond, true, false, Option, Some, None, refl, sym, ap, subst, ◌∙◌, arith, inl, inr, zero, suc, All, append-nil}
use Rattle.std.specs.Prelude.{min, count_by, slice_get}
use Rattle.std.specs.List.{flat_map, range_with_len, AllPairs}
use Rattle.std.proofs.lemmas.Bool.{cases_eq, eq-eqb, ne_eqb}
use Rattle.std.proofs.lemmas.Grind.{common_steps, same_number_lists}
use Rattle.std.proofs.lemmas.List.{flat_map_more, get_or-replicate, get_or-set_same, get_or-set_other, length-set, take_more}
use Rattle.std.proofs.lemmas.List.FromFn.{get_or-map-range_with_len, length-map-range_with_len, map-range_with_len_more}
use Rattle.std.proofs.lemmas.Nat.{mod_below}
use Rattle.std.proofs.lemmas.Option.{slice_get-get_or}
use Rattle.std.proofs.lemmas.List.Elements.{All-push}
use Rattle.std.proofs.lemmas.List.Quantifiers.{all_pairs_push}
use Rattle.day_core.specs.declared.merging.Piece.{Piece}
use Rattle.day_core.specs.declared.playing.Event.{Event}
use Rattle.day_core.specs.declared.playing.Event.TheVariants.{Look, Turn}
use Rattle.day_core.specs.declared.playing.Seen.{Seen}
use Rattle.day_core.specs.Turns.{TurnsState, TurnsWorker, shown}
use Rattle.day_core.specs.Owners.{own_of, owner, progress}
use Rattle.day_core.proofs.Progress.{progress_rises}
use Rattle.day_core.specs.Schedules.{Changes, done_after, is_turn, seen_at, seen_of, seen_until, IsNotBack, SeenNeverGoesBack, message_seen}

-- how far all workers of a day are after these events
abbrev pub turns_after : List (List ℕ) → ℕ → List Event → TurnsState
turns_after day workers events =
    record { day = day; done = map (done_after day workers events) (range_with_len 0 workers) }

-- one event more to count
count_more : (worker : ℕ) (event : Event) (before : List Event) → count_by (is_turn worker) (before ++ event ∷ []) ≡ count_by (is_turn worker) before + cond (is_turn worker event) 1 0
count_more worker event [] = grind (arith, common_steps)
count_more worker event (first ∷ before) = let rest = count_more worker event before in grind (arith, common_steps, rest)

-- all workers are this far where each is
turns_are : (day : List (List ℕ)) (workers : ℕ) (events : List Event) (new : TurnsState) → new.day ≡ day → length new.done ≡ workers
    → ((k : ℕ) → k < workers → get_or new.done k 0 ≡ done_after day workers events k) → new ≡ turns_after day workers events
turns_are day workers events new same many each =
    let far = done_after day workers events in
    let dones_are : new.done ≡ map far (range_with_len 0 workers) =
    same_number_lists new.done _ (many ∙ sym (length-map-range_with_len far 0 workers)) (λ k lt.
    each k (omega (arith, lt, many)) ∙ sym (get_or-map-range_with_len far 0 workers k k 0 (omega (arith, lt, many)) (omega arith)))
    in
    λ i. record { day = same i; done = dones_are i }

module _ (day : List (List ℕ)) (workers : ℕ) (before : List Event) where
  abbrev dones : List ℕ
  dones = map (done_after day workers before) (range_with_len 0 workers)

  long : length dones ≡ workers
  long = length-map-range_with_len (done_after day workers before) 0 workers

  done_at : (k : ℕ) → k < workers → get_or dones k 0 ≡ done_after day workers before k
  done_at k lt = get_or-map-range_with_len (done_after day workers before) 0 workers k k 0 lt (omega arith)

  other_stays : (worker k : ℕ) → k ≢ worker → done_after day workers before k ≡ done_after day workers (before ++ Turn worker ∷ []) k
  other_stays worker k differ =
      let none : eqb worker k ≡ false = ne_eqb _ _ (λ e. differ (sym e)) in
      let more = count_more k (Turn worker) before in
      grind (arith, common_steps, none, more)

  own_moves : (worker : ℕ) → done_after day workers (before ++ Turn worker ∷ []) worker ≡ min (count_by (is_turn worker) before + 1) (length (own_of workers worker day))
  own_moves worker =
      let one : eqb worker worker ≡ true = eq-eqb _ _ refl in
      let more = count_more worker (Turn worker) before in
      grind (arith, common_steps, one, more)

  pub turned : (worker : ℕ) (result : Option Piece) (new : TurnsState) → TurnsWorker (turns_after day workers before) new worker result → new ≡ turns_after day workers (before ++ Turn worker ∷ [])
  turned worker None new h = turns_are day workers (before ++ Turn worker ∷ []) new (ap (λ (c : TurnsState). c.day) h.1) (ap (λ (c : TurnsState). length c.done) h.1 ∙ long) (λ k lt.
      ap (λ (c : TurnsState). get_or c.done k 0) h.1 ∙ done_at k lt
      ∙ elim (cases_eq k worker) [
        | inl same ↦ subst (λ (j : ℕ). j < workers → done_after day workers before j ≡ done_after day workers (before ++ Turn worker ∷ []) j) (sym same) (λ below.
            let all : done_after day workers before worker ≡ length (own_of workers worker day) =
            sym (done_at worker below) ∙ h.0 (omega (arith, below, long)) ∙ ap (λ (w : ℕ). length (own_of w worker day)) long in
            omega (arith, all, own_moves worker)) lt
        | inr differ ↦ other_stays worker k differ
      ])
  turned worker (Some piece) new h =
      let below : worker < workers = omega (arith, h.0, long) in
      let is = h.3 in
      let more : done_after day workers before worker < length (own_of workers worker day) =
      omega (arith, h.1, done_at worker below, ap (λ (w : ℕ). length (own_of w worker day)) long) in
      turns_are day workers (before ++ Turn worker ∷ []) new (ap (λ (c : TurnsState). c.day) is) (ap (λ (c : TurnsState). length c.done) is ∙ length-set dones worker _ ∙ long) (λ k lt.
      ap (λ (c : TurnsState). get_or c.done k 0) is
      ∙ elim (cases_eq k worker) [
        | inl same ↦ subst (λ (j : ℕ). get_or (set dones worker (get_or dones worker 0 + 1)) j 0 ≡ done_after day workers (before ++ Turn worker ∷ []) j) (sym same)
            (get_or-set_same dones worker _ 0 (omega (arith, below, long)) ∙ omega (arith, done_at worker below, more, own_moves worker))
        | inr differ ↦ get_or-set_other dones worker k _ 0 differ ∙ done_at k lt ∙ other_stays worker k differ
      ])

  looked : (screen locate : ℕ) → turns_after day workers before ≡ turns_after day workers (before ++ Look screen locate ∷ [])
  looked screen locate = turns_are day workers (before ++ Look screen locate ∷ []) (turns_after day workers before) refl long (λ k lt.
      let more = count_more k (Look screen locate) before in
      done_at k lt ∙ ap (λ (n : ℕ). min n (length (own_of workers k day))) (sym (more ∙ omega arith)))

  -- an event changes the workers as its index in the schedule says
  pub changed : (event : Event) (new : TurnsState) → Changes (turns_after day workers before) event new → new ≡ turns_after day workers (before ++ event ∷ [])
  changed (Turn worker) new h = turned worker h.0 new h.1
  changed (Look screen locate) new h = h ∙ looked screen locate

  -- and shows what it says
  pub shows : 0 < workers → (event : Event) → seen_of (turns_after day workers before) event ≡ seen_at day workers before (Some event)
  shows some (Turn worker) = refl
  shows some (Look screen locate) =
      let words = ap (λ (w : ℕ). shown day w locate (get_or dones (owner w locate) 0)) long
      ∙ ap (shown day workers locate) (done_at (owner workers locate) (mod_below locate workers some)) in
      ap (λ (ws : List ℕ). let s : Seen = record { screen = screen; locate = locate; words = ws } in s ∷ []) words

-- before the first event
pub turns_first : (turns : TurnsState) → turns ≡ record { day = turns.day; done = replicate (length turns.done) 0 } → turns ≡ turns_after turns.day (length turns.done) []
turns_first turns zeros = turns_are turns.day (length turns.done) [] turns refl refl (λ k lt.
    ap (λ (c : TurnsState). get_or c.done k 0) zeros ∙ get_or-replicate (length turns.done) k 0 0 lt ∙ omega arith)

-- one event more
pub seen_more : (day : List (List ℕ)) (workers : ℕ) (events : List Event) (i : ℕ) (d : Event) → i < length events
    → seen_until day workers events (i + 1) ≡ seen_until day workers events i ++ seen_at day workers (take i events) (Some (get_or events i d))
seen_more day workers events i d lt =
    let f : ℕ → List Seen = λ j. seen_at day workers (take j events) (slice_get events j) in
    ap (flat_map f) (range_more 0 i) ∙ sym (flat_map_more f [] (range_with_len 0 i) i)
    ∙ ap (λ (o : Option Event). seen_until day workers events i ++ seen_at day workers (take i events) o) (slice_get-get_or events i d lt)
  where
    range_more : (a n : ℕ) → range_with_len 0 (n + 1) ≡ range_with_len 0 n ++ n ∷ []
    range_more a n = sym (map-id _) ∙ map-range_with_len_more (λ (k : ℕ). k) 0 n n (omega arith) ∙ ap (λ (l : List ℕ). l ++ n ∷ []) (map-id _)

-- ---- looks never go back

count_rises : (worker : ℕ) (before more : List Event) → count_by (is_turn worker) before ≤ count_by (is_turn worker) (before ++ more)
count_rises worker [] more = omega arith
count_rises worker (event ∷ before) more = let rest = count_rises worker before more in grind (arith, common_steps, rest)

pub looks_rise : (day : List (List ℕ)) (workers locate : ℕ) (before more : List Event)
    → progress day workers locate (done_after day workers before (owner workers locate))
    ≤ progress day workers locate (done_after day workers (before ++ more) (owner workers locate))
looks_rise day workers locate before more =
    progress_rises day workers locate _ _ (omega (arith, count_rises (owner workers locate) before more))

-- ---- what looks show never goes back

-- the message at which a stock stands after some events
abbrev stands_at : List (List ℕ) → ℕ → List Event → ℕ → ℕ
stands_at day workers events locate = progress day workers locate (done_after day workers events (owner workers locate))

-- after some events a stock stands at the message that a look has shown, or at a later one
abbrev IsReached : List (List ℕ) → ℕ → List Event → Seen → Type 0
IsReached day workers events seen = message_seen seen ≤ stands_at day workers events seen.locate

-- what looks have shown is reached after some events, and none of it goes back
record IsSeen (day : List (List ℕ)) (workers : ℕ) (events : List Event) (seen : List Seen) : Type 0 where
  reached : All (IsReached day workers events) seen
  pairs : AllPairs IsNotBack seen

-- what a look after some events shows
abbrev look_after : List (List ℕ) → ℕ → List Event → ℕ → ℕ → Seen
look_after day workers events screen locate = record {
  screen = screen;
  locate = locate;
  words = shown day workers locate (done_after day workers events (owner workers locate));
}

module _ (day : List (List ℕ)) (workers : ℕ) where
  still_reached : (events : List Event) (event : Event) (seen : List Seen) → All (IsReached day workers events) seen → All (IsReached day workers (events ++ event ∷ [])) seen
  still_reached events event seen reached k d lt =
      omega (arith, reached k d lt, looks_rise day workers (get_or seen k d).locate events (event ∷ []))

  look_reached : (events : List Event) (screen locate : ℕ) → IsReached day workers events (look_after day workers events screen locate)
  look_reached events screen locate = omega arith

  seen_next : (events : List Event) (event : Event) (seen : List Seen) → IsSeen day workers events seen
      → IsSeen day workers (events ++ event ∷ []) (seen ++ seen_at day workers events (Some event))
  seen_next events (Turn worker) seen before = record {
    reached = subst (All (IsReached day workers (events ++ Turn worker ∷ []))) (sym (append-nil seen)) (still_reached events (Turn worker) seen before.reached);
    pairs = subst (AllPairs IsNotBack) (sym (append-nil seen)) before.pairs;
  }
  seen_next events (Look screen locate) seen before = record {
    reached =
        still_reached events (Look screen locate) (seen ++ look_after day workers events screen locate ∷ [])
        (All-push (IsReached day workers events) seen (look_after day workers events screen locate) before.reached (look_reached events screen locate));
    pairs =
        all_pairs_push IsNotBack seen (look_after day workers events screen locate) before.pairs (λ k d lt same.
        subst (λ (l : ℕ). message_seen (get_or seen k d) ≤ stands_at day workers events l) same (before.reached k d lt));
  }

  -- what the first of some events show
  seen_so_far : (events : List Event) (n : ℕ) → n ≤ length events → IsSeen day workers (take n events) (seen_until day workers events n)
  seen_so_far events zero le = record {
    reached = λ k d lt. absurd (omega (arith, lt));
    pairs = λ i j d before lt. absurd (omega (arith, lt));
  }
  seen_so_far events (suc n) le =
      let event = get_or events n (Turn 0) in
      let one : n + 1 ≡ suc n = omega arith in
      let below : n < length events = omega (arith, le) in
      let more = seen_next (take n events) event (seen_until day workers events n) (seen_so_far events n (omega (arith, le))) in
      let seen =
      subst (IsSeen day workers (take n events ++ event ∷ [])) (sym (seen_more day workers events n (Turn 0) below)) more
      in
      let taken =
      subst (λ (es : List Event). IsSeen day workers es (seen_until day workers events (n + 1))) (sym (take_more events n (Turn 0) below)) seen
      in
      subst (λ (k : ℕ). IsSeen day workers (take k events) (seen_until day workers events k)) one taken

pub seen_never_goes_back : SeenNeverGoesBack
seen_never_goes_back day workers events = (seen_so_far day workers events (length events) (omega arith)).pairs

pub ruleset never_back = (looks_rise, seen_never_goes_back)
