use Rattle.std.proofs.Common.{◌≡◌, ◌<◌, ◌++◌, ◌∷◌, [], ℕ, ◌+◌, ◌-◌, List, Bool, true, false, cond, filter, get_or, length, map, refl, sym, ap, ◌∙◌, arith, append-nil}
use Rattle.std.specs.List.{range_with_len}
use Rattle.std.proofs.lemmas.List.{get_or_default, map-append}
use Rattle.std.proofs.lemmas.List.FromFn.{get_or-map-range_with_len, length-map-range_with_len}
use Rattle.itch_table.specs.declared.outcome.Outcome.{Outcome}
use Rattle.itch_table.specs.declared.outcome.Outcome.TheVariants.{Applied, Passed, Refused}
use Rattle.itch_table.specs.After.{outcome, outcomes}
use Rattle.itch_table.specs.Parts.{part}
use Rattle.day_core.proofs.FilteredRanges.{kept_more}
use Rattle.day_replay.specs.declared.refusals.RefusedMessage.{RefusedMessage}
use Rattle.day_replay.specs.Summaries.{is_refused, refused_among, refused_message, stock_of}
use Rattle.itch_engine.proofs.engines.replay.refused_among.Goals as goal
use Rattle.itch_engine.proofs.engines.replay.refused_among.Goals.{in-Refused+in_ok-push, in_default}

abbrev as_refused : ℕ → List ℕ → Outcome → RefusedMessage
as_refused message payload o = record { message = message; locate = stock_of (part payload); outcome = o }

module _ (day : List (List ℕ)) (n : ℕ) where
  -- one message more
  more : refused_among day (range_with_len 1 (n + 1)) ≡ refused_among day (range_with_len 1 n) ++ map (refused_message day) (cond (is_refused (outcome day (n + 1))) ((n + 1) ∷ []) [])
  more =
      ap (map (refused_message day)) (kept_more (λ m. is_refused (outcome day m)) 1 n (n + 1) (omega arith))
      ∙ map-append (refused_message day) (filter (λ m. is_refused (outcome day m)) (range_with_len 1 n)) _

  more_refused : is_refused (outcome day (n + 1)) ≡ true → refused_among day (range_with_len 1 (n + 1)) ≡ refused_among day (range_with_len 1 n) ++ refused_message day (n + 1) ∷ []
  more_refused on = more ∙ ap (λ (b : Bool). refused_among day (range_with_len 1 n) ++ map (refused_message day) (cond b ((n + 1) ∷ []) [])) on

  more_other : is_refused (outcome day (n + 1)) ≡ false → refused_among day (range_with_len 1 (n + 1)) ≡ refused_among day (range_with_len 1 n)
  more_other off =
      more ∙ ap (λ (b : Bool). refused_among day (range_with_len 1 n) ++ map (refused_message day) (cond b ((n + 1) ∷ []) [])) off
      ∙ append-nil (refused_among day (range_with_len 1 n))

  module _ (found : List Outcome) (are : found ≡ outcomes day) (below : n < length found) where
    pub within : n < length day
    within = omega (arith, below, ap length are, length-map-range_with_len (outcome day) 1 (length day))

    found_at : get_or found n Applied ≡ outcome day (n + 1)
    found_at =
        ap (λ (os : List Outcome). get_or os n Applied) are
        ∙ get_or-map-range_with_len (outcome day) 1 (length day) n (n + 1) Applied within (omega arith)

    -- the message as it is noted
    noted : (payload : List ℕ) → payload ≡ get_or day (n + 1 - 1) payload → as_refused (n + 1) payload (get_or found n Applied) ≡ refused_message day (n + 1)
    noted payload is =
        ap (λ (p : List ℕ). as_refused (n + 1) p (get_or found n Applied)) (is ∙ get_or_default day (n + 1 - 1) payload [] (omega (arith, within)))
        ∙ ap (as_refused (n + 1) (get_or day (n + 1 - 1) [])) found_at

not_refused : (o : Outcome) → ((fault : _) → o ≡ Refused fault → ⊥) → is_refused o ≡ false
not_refused Applied other = refl
not_refused Passed other = refl
not_refused (Refused fault) other = absurd (other fault refl)

pub payload-requires-clause-last : goal.payload-requires-clause-last
payload-requires-clause-last g c =
    omega (arith, within c.args.day.now.payloads c.loop-before.before c.args.found.now c.requires.are (omega (arith, c.loop-before-test.true, c.loop-before.auto.before-end)))

pub loop-before-preserved : goal.loop-before-preserved
loop-before-preserved g c =
    let day = c.args.day.now.payloads in
    let n = c.loop-before.before in
    let found = c.args.found.now in
    let below : n < length found = omega (arith, c.loop-before-test.true, c.loop-before.auto.before-end) in
    let here = found_at day n found c.requires.are below in
    let so_far = c.loop-before.invariant in
    elim c.match-outcome.branch [
      | in-Refused+in_ok-push w ↦
          let on : is_refused (outcome day (n + 1)) ≡ true = ap is_refused (sym here ∙ w.in-Refused.is) in
          ap (λ v. v.items) w.refused-is ∙ w.in_ok-push.ensures.items ∙ ap (λ (l : List RefusedMessage). l ++ w.of.result ∷ []) so_far
          ∙ ap (λ (r : RefusedMessage). refused_among day (range_with_len 1 n) ++ r ∷ []) (w.of.ensures ∙ noted day n found c.requires.are below w.payload.result.now w.payload.ensures)
          ∙ sym (more_refused day n on)
      | in_default w ↦
          let off : is_refused (outcome day (n + 1)) ≡ false = ap is_refused (sym here) ∙ not_refused _ w.in_default.not-Refused in
          ap (λ v. v.items) w.refused-is ∙ so_far ∙ sym (more_other day n off)
    ]

pub returns : goal.returns
returns g c =
    let day = c.args.day.now.payloads in
    let now = c.loop-before in
    let done : now.before ≡ length day = omega (arith, c.loop-before-test.false, now.auto.before-end, ap length c.requires.are, length-map-range_with_len (outcome day) 1 (length day)) in
    now.invariant ∙ ap (λ (n : ℕ). refused_among day (range_with_len 1 n)) done
