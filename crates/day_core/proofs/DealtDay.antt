-- A day, dealt to its workers: whose each message is, one message more, and a whole day.
use Rattle.std.proofs.Common.{◌≡◌, ℕ, ◌+◌, ◌-◌, ◌%◌, ◌<◌, ◌^◌, List, [], ◌∷◌, ◌++◌, length, get_or, set, map, filter, replicate, cond, Option, None, refl, ap, sym, ◌∙◌, arith, inl, inr, append-nil}
use Rattle.std.specs.List.{range_with_len, AllZip}
use Rattle.std.proofs.lemmas.Bool.{cases_lt, eq-eqb, ne_eqb}
use Rattle.std.proofs.lemmas.Nat.{mod_below}
use Rattle.std.proofs.lemmas.List.FromFn.{fill_by_all, get_or-map-range_with_len, length-map-range_with_len}
use Rattle.std.proofs.lemmas.List.{get_or_default, get_or_past, get_or-map, length-map, map-append}
use Rattle.std.proofs.lemmas.Slice.Zip.{AllZip-map}
use Rattle.itch_layouts.specs.Shapes.{shape_of}
use Rattle.itch_layouts.specs.declared.message.Msg.TheVariants.{System}
use Rattle.itch_layouts.specs.declared.shape.Shape.{Shape}
use Rattle.itch_layouts.specs.declared.shape.Shape.TheVariants.{Known}
use Rattle.itch_table.specs.declared.outcome.Outcome.{Outcome}
use Rattle.itch_table.specs.declared.outcome.Part.{Part}
use Rattle.itch_table.specs.declared.outcome.Part.TheVariants.{Locate, Nowhere}
use Rattle.itch_table.specs.World.{World}
use Rattle.itch_table.specs.After.{after}
use Rattle.itch_table.specs.Parts.{part, part_of_shape}
use Rattle.itch_table.specs.Projection.{event_with}
use Rattle.itch_table.proofs.Days.{after-next, after-none}
use Rattle.itch_table.proofs.NoStock.{system_sets_event}
use Rattle.itch_table.proofs.StockDays.{outcomes_stay_fixed}
use Rattle.itch_table.specs.Shows.{locates_of_day}
use Rattle.day_core.specs.declared.merging.Piece.{Piece}
use Rattle.day_core.specs.Replaying.{each_worker}
use Rattle.day_core.specs.Splitting.{ArePartsOf, DayParts}
use Rattle.day_core.specs.Owners.{fixed_pieces, fixed_until, is_nowhere, is_own, own_of, own_until, part_at, piece_of}
use Rattle.day_core.proofs.FilteredRanges.{kept_more}
use Rattle.day_core.proofs.Progress.{own_none}
use Rattle.day_core.proofs.StocksByWorker.{none_yet, one_set}

-- ---- whose each message is

-- in a list that threads have made
pub whose_from : (day : List (List ℕ)) (whose given : List Part) (places : List ℕ) → AllZip (λ before own. own ≡ part (get_or day before [])) places given → places ≡ range_with_len 0 (length day) → whose ≡ given
    → whose ≡ map part day
whose_from day whose given places found all is =
    let at = λ (before : ℕ). part (get_or day before []) in
    is ∙ AllZip-map at places given found ∙ ap (map at) all
    ∙ sym (fill_by_all at (map part day) (length day) (Locate 0) (length-map day part) (λ k lt. get_or-map part day k [] (Locate 0) lt))

pub part_read : (day : List (List ℕ)) (whose : List Part) → whose ≡ map part day → (n : ℕ) (d : Part) → n < length day → get_or whose n d ≡ part (get_or day n [])
part_read day whose are n d lt = ap (λ (ps : List Part). get_or ps n d) are ∙ get_or-map part day n [] d lt

-- ---- one message after another

-- the first messages of a day are dealt: each worker's messages, those of no stock with their outcomes, and the last event
pub record AreDealt (day : List (List ℕ)) (workers count : ℕ) (own : List (List ℕ)) (fixed : List Piece) (event : Option ℕ) : Type 0 where
  pub own_are : own ≡ each_worker (λ worker. own_until workers worker day count) workers
  pub fixed_are : fixed ≡ fixed_until day count
  pub event_is : event ≡ (after day count).event

-- a stock's message leaves the event
pub event_stays : (shape : Shape) (locate : ℕ) (event : Option ℕ) → part_of_shape shape ≡ Locate locate → event_with shape event ≡ event
event_stays (Known (System head m)) locate event is = let never : ⊥ = cc in absurd never
event_stays shape locate event is = refl

-- before the first message
pub dealt_none : (day : List (List ℕ)) (workers : ℕ) (own : List (List ℕ)) (fixed : List Piece) (event : Option ℕ) → own ≡ replicate workers [] → fixed ≡ [] → event ≡ None
    → AreDealt day workers 0 own fixed event
dealt_none day workers own fixed event empty nothing never = record {
  own_are = none_yet workers own empty;
  fixed_are = nothing;
  event_is = never ∙ sym (ap (λ (w : World). w.event) (after-none day));
}

-- one message more
module _ (day : List (List ℕ)) (workers n : ℕ) (own : List (List ℕ)) (fixed : List Piece) (event : Option ℕ) (before : AreDealt day workers n own fixed event) (more : n < length day) where
  here : part_at day (n + 1) ≡ part (get_or day n [])
  here = let same : n + 1 - 1 ≡ n = omega arith in ap (λ (k : ℕ). part (get_or day k [])) same

  own_more : (worker : ℕ) (p : Part) → p ≡ part (get_or day n []) → own_until workers worker day (n + 1) ≡ own_until workers worker day n ++ cond (is_own workers worker p) ((n + 1) ∷ []) []
  own_more worker p is =
      kept_more (λ (m : ℕ). is_own workers worker (part_at day m)) 1 n (n + 1) (omega arith)
      ∙ ap (λ (q : Part). own_until workers worker day n ++ cond (is_own workers worker q) ((n + 1) ∷ []) []) (here ∙ sym is)

  fixed_more : (p : Part) → p ≡ part (get_or day n []) → fixed_until day (n + 1) ≡ fixed_until day n ++ map (piece_of day) (cond (is_nowhere p) ((n + 1) ∷ []) [])
  fixed_more p is =
      let kept = filter (λ (m : ℕ). is_nowhere (part_at day m)) (range_with_len 1 n) in
      ap (map (piece_of day))
      (kept_more (λ (m : ℕ). is_nowhere (part_at day m)) 1 n (n + 1) (omega arith) ∙ ap (λ (q : Part). kept ++ cond (is_nowhere q) ((n + 1) ∷ []) []) (here ∙ sym is))
      ∙ map-append (piece_of day) kept _

  event_next : event_with (shape_of (get_or day n [])) (after day n).event ≡ (after day (n + 1)).event
  event_next = sym (system_sets_event (after day n) (get_or day n [])) ∙ sym (ap (λ (w : World). w.event) (after-next day n))

  pub dealt_own : (locate : ℕ) → Locate locate ≡ part (get_or day n []) → 0 < workers
      → AreDealt day workers (n + 1) (set own (locate % workers) (get_or own (locate % workers) [] ++ (n + 1) ∷ [])) fixed event
  dealt_own locate is some =
      let owner = locate % workers in
      let below : owner < workers = mod_below locate workers some in
      let here : get_or own owner [] ≡ own_until workers owner day n =
      ap (λ (ls : List (List ℕ)). get_or ls owner []) before.own_are ∙ get_or-map-range_with_len (λ worker. own_until workers worker day n) 0 workers owner owner [] below (omega arith)
      in
      let mine = eq-eqb owner owner refl in
      record {
        own_are =
            one_set (λ worker. own_until workers worker day n) (λ worker. own_until workers worker day (n + 1)) workers owner _ own below before.own_are
            (ap (λ (l : List ℕ). l ++ (n + 1) ∷ []) here ∙ sym (rw mine at (own_more owner (Locate locate) is)))
            (λ worker differ. let tested = ne_eqb owner worker (λ e. differ (sym e)) in (rw tested at (own_more worker (Locate locate) is)) ∙ append-nil _);
        fixed_are = before.fixed_are ∙ sym (fixed_more (Locate locate) is ∙ append-nil (fixed_until day n));
        event_is = before.event_is ∙ sym (event_stays (shape_of (get_or day n [])) locate (after day n).event (sym is)) ∙ event_next;
      }

  pub dealt_fixed : (outcome : Outcome) → Nowhere outcome ≡ part (get_or day n []) → (payload : List ℕ) → payload ≡ get_or day n payload
      → AreDealt day workers (n + 1) own (fixed ++ record { message = n + 1; outcome = outcome } ∷ []) (event_with (shape_of payload) event)
  dealt_fixed outcome is payload read =
      let known = outcomes_stay_fixed day (n + 1) outcome (here ∙ sym is) in
      let here : payload ≡ get_or day n [] = read ∙ get_or_default day n payload [] more in
      record {
        own_are = before.own_are ∙ (λ i. map (λ worker. sym (own_more worker (Nowhere outcome) is ∙ append-nil (own_until workers worker day n)) i) (range_with_len 0 workers));
        fixed_are =
            ap (λ (ps : List Piece). ps ++ record { message = n + 1; outcome = outcome } ∷ []) before.fixed_are
            ∙ ap (λ (o : Outcome). fixed_until day n ++ record { message = n + 1; outcome = o } ∷ []) (sym known)
            ∙ sym (fixed_more (Nowhere outcome) is);
        event_is = ap (λ (p : List ℕ). event_with (shape_of p) event) here ∙ ap (event_with (shape_of (get_or day n []))) before.event_is ∙ event_next;
      }

-- a whole day
pub all_dealt : (day : List (List ℕ)) (parts : DayParts) → 0 < parts.workers → length day < 2 ^ 32 → AreDealt day parts.workers (length day) parts.own parts.fixed parts.event → parts.locates ≡ locates_of_day day
    → ArePartsOf day parts
unfolding own_of fixed_pieces
all_dealt day parts some few dealt listed = record {
  some = some;
  few = few;
  locates_are = listed;
  own_are = dealt.own_are;
  fixed_are = dealt.fixed_are;
  event_is = dealt.event_is;
}

-- ---- what the parts of a day hold

pub own_is : (day : List (List ℕ)) (parts : DayParts) (worker : ℕ) → ArePartsOf day parts → get_or parts.own worker [] ≡ own_of parts.workers worker day
own_is day parts worker are = elim (cases_lt worker parts.workers) [
  | inl lt ↦
      ap (λ (ls : List (List ℕ)). get_or ls worker []) are.own_are
      ∙ get_or-map-range_with_len (λ w. own_of parts.workers w day) 0 parts.workers worker worker [] lt (omega arith)
  | inr past ↦
      get_or_past parts.own worker []
      (omega (arith, past, ap length are.own_are, length-map-range_with_len (λ (w : ℕ). own_of parts.workers w day) 0 parts.workers))
      ∙ sym (own_none parts.workers worker day are.some (omega (arith, past)))
]
