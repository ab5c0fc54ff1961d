-- What batches make of a whole day: the refused messages, and what is known of those of no stock.
use Rattle.std.proofs.Common.{◌≡◌, ◌≢◌, ℕ, ◌+◌, ◌-◌, ◌%◌, List, [], ◌∷◌, ◌++◌, length, get_or, map, filter, cond, Bool, true, false, ◌&&◌, None, refl, sym, ap, ◌∙◌, arith}
use Rattle.std.specs.List.{count_by, flat_map, range_with_len}
use Rattle.std.specs.Option.{option_or}
use Rattle.std.proofs.lemmas.Bool.{eq-eqb}
use Rattle.std.proofs.lemmas.List.{length-append}
use Rattle.std.proofs.lemmas.List.Sums.{sum_by-cons}
use Rattle.itch_layouts.specs.Shapes.{shape_of}
use Rattle.itch_table.specs.declared.outcome.Outcome.{Outcome}
use Rattle.itch_table.specs.declared.outcome.Outcome.TheVariants.{Applied, Passed, Refused}
use Rattle.itch_table.specs.declared.outcome.Part.{Part}
use Rattle.itch_table.specs.declared.outcome.Part.TheVariants.{Locate, Nowhere}
use Rattle.itch_table.specs.After.{after, outcome, outcomes}
use Rattle.itch_table.specs.Parts.{part}
use Rattle.itch_table.specs.Projection.{event_with, is_of_stock, only, payload_at}
use Rattle.itch_table.specs.Table.{step}
use Rattle.itch_table.specs.World.{World, empty_world}
use Rattle.itch_table.proofs.Days.{after-next, after-none, outcome-next}
use Rattle.itch_table.proofs.NoStock.{system_sets_event}
use Rattle.itch_table.proofs.OtherSteps.{others_stay}
use Rattle.itch_table.proofs.OwnSteps.{steps_are_own}
use Rattle.itch_table.proofs.StockDays.{other_part, outcomes_stay_fixed, own_part}
use Rattle.day_replay.specs.declared.refusals.RefusedMessage.{RefusedMessage}
use Rattle.day_replay.proofs.AppliedOrRefused.{stock_applied}
use Rattle.day_replay.proofs.RefusedMessages.{fixed_refused, refused_by}
use Rattle.day_core.specs.Owners.{is_nowhere, is_own, own_of, part_at}
use Rattle.day_replay.specs.Summaries.{is_passed, is_refused, refused_among, refused_message, stock_of}
use Rattle.day_replay.specs.Messages.{numbered_after, of_batch}
use Rattle.day_replay.specs.Batches.{refused_from}
use Rattle.day_replay.specs.NoStock.{if_nowhere_refused, if_refused, is_nowhere_passed, last_event, no_stock_of}
use Rattle.day_replay.proofs.BatchSteps.{own_locate, split_next}
use Rattle.day_replay.proofs.NoStockMessages.{event_or, option_or-assoc, option_or-none}

-- ---- a message of a day that is split before it

module _ (day done rest : List (List ℕ)) (payload : List ℕ) (split : day ≡ done ++ payload ∷ rest) where
  n : ℕ
  n = length done

  pub at : get_or day (length done) [] ≡ payload
  at = ap (λ (l : List (List ℕ)). get_or l (length done) []) split ∙ here done
    where
      here : (xs : List (List ℕ)) → get_or (xs ++ payload ∷ rest) (length xs) [] ≡ payload
      here [] = refl
      here (x ∷ xs) = here xs

  pub payload_is : payload_at day (length done + 1) ≡ payload
  payload_is = let same : length done + 1 - 1 ≡ length done = omega arith in ap (λ (k : ℕ). get_or day k []) same ∙ at

  pub part_is : part_at day (length done + 1) ≡ part payload
  part_is = ap part payload_is

  pub outcome_is : outcome day (length done + 1) ≡ (step (after day (length done)) payload).0
  outcome_is =
      let same : length done + 1 ≡ 1 + length done = omega arith in
      ap (outcome day) same ∙ outcome-next day (length done) ∙ ap (λ (p : List ℕ). (step (after day (length done)) p).0) at

  pub after_is : after day (length done + 1) ≡ (step (after day (length done)) payload).1
  after_is = after-next day (length done) ∙ ap (λ (p : List ℕ). (step (after day (length done)) p).1) at

  pub goes_on : day ≡ (done ++ payload ∷ []) ++ rest
  goes_on = split_next day done (payload ∷ rest) rest payload split refl

  pub longer : length (done ++ payload ∷ []) ≡ length done + 1
  longer = length-append done (payload ∷ [])

-- ---- the refused messages of a batch

-- two worlds have the same rows of the stocks of a batch
abbrev Agree : ℕ → World → World → Type 0
Agree batch w v = (locate : ℕ) → locate % 128 ≡ batch → only locate w ≡ only locate v

-- a stock's rows after a payload, by those before it
pub only_step : (w v : World) (payload : List ℕ) (locate : ℕ) → only locate w ≡ only locate v → only locate (step w payload).1 ≡ only locate (step v payload).1
only_step w v payload locate same = by (is_of_stock locate payload) refl
  where
    by : (b : Bool) → is_of_stock locate payload ≡ b → only locate (step w payload).1 ≡ only locate (step v payload).1
    by true own =
        let is = own_part locate (part payload) own in
        sym (ap (λ (r : Outcome × World). r.1) (steps_are_own w payload locate is))
        ∙ ap (λ (u : World). (step u payload).1) same
        ∙ ap (λ (r : Outcome × World). r.1) (steps_are_own v payload locate is)
    by false other =
        let not = other_part locate (part payload) other in
        others_stay w payload locate not ∙ same ∙ sym (others_stay v payload locate not)

outcome_step : (w v : World) (payload : List ℕ) (locate : ℕ) → part payload ≡ Locate locate → only locate w ≡ only locate v → (step w payload).0 ≡ (step v payload).0
outcome_step w v payload locate own same =
    sym (ap (λ (r : Outcome × World). r.0) (steps_are_own w payload locate own))
    ∙ ap (λ (u : World). (step u payload).0) same
    ∙ ap (λ (r : Outcome × World). r.0) (steps_are_own v payload locate own)

among-cons : (day : List (List ℕ)) (k : ℕ) (ks : List ℕ) → refused_among day (k ∷ ks) ≡ if_refused k (stock_of (part_at day k)) (outcome day k) ++ refused_among day ks
among-cons day k ks = by (is_refused (outcome day k))
  where
    by : (b : Bool) → map (refused_message day) (cond b (k ∷ filter (λ n. is_refused (outcome day n)) ks) (filter (λ n. is_refused (outcome day n)) ks))
        ≡ cond b (refused_message day k ∷ []) [] ++ refused_among day ks
    by true = refl
    by false = refl

module _ (day : List (List ℕ)) (batch : ℕ) where
  abbrev own_from : ℕ → ℕ → List ℕ
  own_from k count = filter (λ n. is_own 128 batch (part_at day n)) (range_with_len k count)

  -- what the payloads after so many are refused
  abbrev RestOf : List (List ℕ) → ℕ → Type 0
  RestOf ps before = (v : World) → Agree batch v (after day before)
      → refused_from v (of_batch batch (numbered_after before ps)) ≡ refused_among day (own_from (before + 1) (length ps))

  refused_rest : (rest done : List (List ℕ)) (w : World) → day ≡ done ++ rest → Agree batch w (after day (length done))
      → refused_from w (of_batch batch (numbered_after (length done) rest)) ≡ refused_among day (own_from (length done + 1) (length rest))
  refused_rest [] done w split agree = refl
  refused_rest (p ∷ ps) done w split agree = by (λ v there. refused_rest ps (done ++ p ∷ []) v (goes_on day done ps p split) there) (is_own 128 batch (part p)) refl
    where
      later : RestOf ps (length (done ++ p ∷ [])) → (v : World) → Agree batch v (after day (length done + 1)) → refused_from v (of_batch batch (numbered_after (length done + 1) ps)) ≡ refused_among day (own_from (length done + 1 + 1) (length ps))
      later rest v agree =
          let long = longer day done ps p split in
          let there : Agree batch v (after day (length (done ++ p ∷ []))) = λ locate own. agree locate own ∙ ap (λ (m : ℕ). only locate (after day m)) (sym long) in
          ap (λ (m : ℕ). refused_from v (of_batch batch (numbered_after m ps))) (sym long)
          ∙ rest v there
          ∙ ap (λ (m : ℕ). refused_among day (own_from (m + 1) (length ps))) long

      by : RestOf ps (length (done ++ p ∷ [])) → (b : Bool) → is_own 128 batch (part p) ≡ b → refused_from w (cond b ((length done + 1, p) ∷ of_batch batch (numbered_after (length done + 1) ps)) (of_batch batch (numbered_after (length done + 1) ps)))
          ≡ refused_among day (own_from (length done + 1) (length (p ∷ ps)))
      by rest true own =
          let found = own_locate batch (part p) own in
          let one : own_from (length done + 1) (length (p ∷ ps)) ≡ (length done + 1) ∷ own_from (length done + 1 + 1) (length ps) =
          ap (λ (q : Part). cond (is_own 128 batch q) ((length done + 1) ∷ own_from (length done + 1 + 1) (length ps)) (own_from (length done + 1 + 1) (length ps))) (part_is day done ps p split)
          ∙ ap (λ (b : Bool). cond b ((length done + 1) ∷ own_from (length done + 1 + 1) (length ps)) (own_from (length done + 1 + 1) (length ps))) own in
          let same : (step w p).0 ≡ outcome day (length done + 1) = outcome_step w (after day (length done)) p found.0 found.1 (agree found.0 found.2) ∙ sym (outcome_is day done ps p split) in
          let next : Agree batch (step w p).1 (after day (length done + 1)) = λ locate mine.
          only_step w (after day (length done)) p locate (agree locate mine) ∙ ap (only locate) (sym (after_is day done ps p split)) in
          ap (λ (o : Outcome). if_refused (length done + 1) (stock_of (part p)) o ++ refused_from (step w p).1 (of_batch batch (numbered_after (length done + 1) ps))) same
          ∙ ap (λ (q : Part). if_refused (length done + 1) (stock_of q) (outcome day (length done + 1)) ++ refused_from (step w p).1 (of_batch batch (numbered_after (length done + 1) ps))) (sym (part_is day done ps p split))
          ∙ ap (λ (l : List RefusedMessage). if_refused (length done + 1) (stock_of (part_at day (length done + 1))) (outcome day (length done + 1)) ++ l) (later rest (step w p).1 next)
          ∙ sym (among-cons day (length done + 1) (own_from (length done + 1 + 1) (length ps)))
          ∙ ap (refused_among day) (sym one)
      by rest false other =
          let one : own_from (length done + 1) (length (p ∷ ps)) ≡ own_from (length done + 1 + 1) (length ps) =
          ap (λ (q : Part). cond (is_own 128 batch q) ((length done + 1) ∷ own_from (length done + 1 + 1) (length ps)) (own_from (length done + 1 + 1) (length ps))) (part_is day done ps p split)
          ∙ ap (λ (b : Bool). cond b ((length done + 1) ∷ own_from (length done + 1 + 1) (length ps)) (own_from (length done + 1 + 1) (length ps))) other in
          let next : Agree batch w (after day (length done + 1)) = λ locate mine.
          agree locate mine
          ∙ sym (ap (only locate) (after_is day done ps p split) ∙ others_stay (after day (length done)) p locate (λ is. not_own locate mine is)) in
          later rest w next ∙ ap (refused_among day) (sym one)
        where
          not_own : (locate : ℕ) → locate % 128 ≡ batch → part p ≢ Locate locate
          not_own locate mine is =
              let on : is_own 128 batch (part p) ≡ true = ap (is_own 128 batch) is ∙ eq-eqb (locate % 128) batch mine in
              let never : ⊥ = cc in
              never

  pub refused_is : refused_from empty_world (of_batch batch (numbered_after 0 day)) ≡ refused_by day 128 batch
  unfolding own_of
  refused_is = refused_rest day [] empty_world refl (λ locate mine. ap (only locate) (sym (after-none day)))

-- ---- the messages of no stock

module _ (day : List (List ℕ)) where
  abbrev refused_nowhere : ℕ → Bool
  refused_nowhere n = is_nowhere (part_at day n) && is_refused (outcome day n)

  abbrev nowhere_from : ℕ → ℕ → List RefusedMessage
  nowhere_from k count = map (refused_message day) (filter refused_nowhere (range_with_len k count))

  abbrev refusals : List (ℕ × List ℕ) → List RefusedMessage
  refusals messages = flat_map (λ m. if_nowhere_refused m.0 (part m.1)) messages

  module _ (done ps : List (List ℕ)) (p : List ℕ) (split : day ≡ done ++ p ∷ ps) where
    abbrev kept_after : List ℕ
    kept_after = filter refused_nowhere (range_with_len (length done + 1 + 1) (length ps))

    abbrev refusals_after : List RefusedMessage
    refusals_after = refusals (numbered_after (length done + 1) ps)

    abbrev kept_if : Bool → List RefusedMessage
    kept_if b = map (refused_message day) (cond b ((length done + 1) ∷ kept_after) kept_after)

    later : refusals (numbered_after (length (done ++ p ∷ [])) ps) ≡ nowhere_from (length (done ++ p ∷ []) + 1) (length ps) → refusals_after ≡ map (refused_message day) kept_after
    later rest =
        let long = longer day done ps p split in
        ap (λ (m : ℕ). refusals (numbered_after m ps)) (sym long) ∙ rest ∙ ap (λ (m : ℕ). nowhere_from (m + 1) (length ps)) long

    tested : (q : Part) → q ≡ part p → nowhere_from (length done + 1) (length (p ∷ ps)) ≡ kept_if (is_nowhere q && is_refused (outcome day (length done + 1)))
    tested q is = ap (λ (r : Part). kept_if (is_nowhere r && is_refused (outcome day (length done + 1)))) (part_is day done ps p split ∙ sym is)

    noted : refusals_after ≡ map (refused_message day) kept_after → (o : Outcome) → o ≡ outcome day (length done + 1) → part_at day (length done + 1) ≡ Nowhere o → (b : Bool)
        → cond b ((record { message = length done + 1; locate = None; outcome = o }) ∷ []) [] ++ refusals_after ≡ kept_if b
    noted rest o same none true =
        ap (λ (u : Outcome). (record { message = length done + 1; locate = None; outcome = u }) ∷ refusals_after) same
        ∙ ap (λ (q : Part). (record { message = length done + 1; locate = stock_of q; outcome = outcome day (length done + 1) }) ∷ refusals_after) (sym none)
        ∙ ap (λ (l : List RefusedMessage). refused_message day (length done + 1) ∷ l) rest
    noted rest o same none false = rest

    one_nowhere : refusals_after ≡ map (refused_message day) kept_after → (q : Part) → q ≡ part p → if_nowhere_refused (length done + 1) q ++ refusals_after ≡ nowhere_from (length done + 1) (length (p ∷ ps))
    one_nowhere rest (Locate locate) is = rest ∙ sym (tested (Locate locate) is)
    one_nowhere rest (Nowhere o) is =
        let none : part_at day (length done + 1) ≡ Nowhere o = part_is day done ps p split ∙ sym is in
        let same : o ≡ outcome day (length done + 1) = sym (outcomes_stay_fixed day (length done + 1) o none) in
        noted rest o same none (is_refused o) ∙ ap (λ (u : Outcome). kept_if (is_refused u)) same ∙ sym (tested (Nowhere o) is)

  nowhere_rest : (rest done : List (List ℕ)) → day ≡ done ++ rest → refusals (numbered_after (length done) rest) ≡ nowhere_from (length done + 1) (length rest)
  nowhere_rest [] done split = refl
  nowhere_rest (p ∷ ps) done split = one_nowhere done ps p split (later done ps p split (nowhere_rest ps (done ++ p ∷ []) (goes_on day done ps p split))) (part p) refl

  pub refused_are : (no_stock_of (numbered_after 0 day)).refused ≡ fixed_refused day 128
  refused_are = nowhere_rest day [] refl

  abbrev passes : ℕ × List ℕ → Bool
  passes message = is_nowhere_passed (part message.1)

  -- a message is passed over exactly where it is of no stock and fixed to be so
  never_passed : (o : Outcome) → (is_refused o ≡ false → o ≡ Applied) → false ≡ is_passed o
  never_passed Applied then = refl
  never_passed Passed then = let applied = then refl in let never : ⊥ = cc in absurd never
  never_passed (Refused fault) then = refl

  passed_is : (n : ℕ) (q : Part) → part_at day n ≡ q → is_nowhere_passed q ≡ is_passed (outcome day n)
  passed_is n (Locate locate) is = never_passed (outcome day n) (stock_applied day n locate is)
  passed_is n (Nowhere o) is = ap is_passed (sym (outcomes_stay_fixed day n o is))

  passed_rest : (rest done : List (List ℕ)) → day ≡ done ++ rest → count_by passes (numbered_after (length done) rest) ≡ count_by is_passed (map (outcome day) (range_with_len (length done + 1) (length rest)))
  passed_rest [] done split = refl
  passed_rest (p ∷ ps) done split =
      let long = longer day done ps p split in
      let later : count_by passes (numbered_after (length done + 1) ps) ≡ count_by is_passed (map (outcome day) (range_with_len (length done + 1 + 1) (length ps))) =
      ap (λ (m : ℕ). count_by passes (numbered_after m ps)) (sym long) ∙ passed_rest ps (done ++ p ∷ []) (goes_on day done ps p split)
      ∙ ap (λ (m : ℕ). count_by is_passed (map (outcome day) (range_with_len (m + 1) (length ps)))) long in
      let same : is_nowhere_passed (part p) ≡ is_passed (outcome day (length done + 1)) = passed_is (length done + 1) (part p) (part_is day done ps p split) in
      sum_by-cons (λ (m : ℕ × List ℕ). cond (passes m) 1 0) (length done + 1, p) (numbered_after (length done + 1) ps)
      ∙ ap (λ (b : Bool). cond b 1 0 + count_by passes (numbered_after (length done + 1) ps)) same
      ∙ ap (λ (k : ℕ). cond (is_passed (outcome day (length done + 1))) 1 0 + k) later
      ∙ sym (sum_by-cons (λ (o : Outcome). cond (is_passed o) 1 0) (outcome day (length done + 1)) (map (outcome day) (range_with_len (length done + 1 + 1) (length ps))))

  pub passed_are : (no_stock_of (numbered_after 0 day)).passed ≡ count_by is_passed (outcomes day)
  passed_are = passed_rest day [] refl

  event_rest : (rest done : List (List ℕ)) → day ≡ done ++ rest → option_or (last_event (numbered_after (length done) rest)) (after day (length done)).event ≡ (after day (length day)).event
  event_rest [] done split =
      let long : length done ≡ length day = omega (arith, ap length split, length-append done []) in
      ap (λ (k : ℕ). (after day k).event) long
  event_rest (p ∷ ps) done split =
      let long = longer day done ps p split in
      let before = (after day (length done)).event in
      let further = last_event (numbered_after (length done + 1) ps) in
      option_or-assoc further (event_with (shape_of p) None) before
      ∙ ap (option_or further) (event_or (shape_of p) before ∙ sym (system_sets_event (after day (length done)) p) ∙ ap (λ (w : World). w.event) (sym (after_is day done ps p split)))
      ∙ ap (λ (m : ℕ). option_or (last_event (numbered_after m ps)) (after day m).event) (sym long)
      ∙ event_rest ps (done ++ p ∷ []) (goes_on day done ps p split)

  pub event_is : (no_stock_of (numbered_after 0 day)).event ≡ (after day (length day)).event
  event_is =
      let none : (after day 0).event ≡ None = ap (λ (w : World). w.event) (after-none day) in
      sym (option_or-none (last_event (numbered_after 0 day))) ∙ ap (option_or (last_event (numbered_after 0 day))) (sym none) ∙ event_rest day [] refl
