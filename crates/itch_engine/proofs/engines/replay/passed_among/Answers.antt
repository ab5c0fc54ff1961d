use Rattle.std.proofs.Common.{◌≡◌, ℕ, ◌+◌, Bool, false, take, refl, ap, sym, ◌∙◌, arith}
use Rattle.std.proofs.lemmas.List.{length-take-le}
use Rattle.std.proofs.lemmas.List.Sums.{count_by-le-length, count_by_more_no, count_by_more_yes}
use Rattle.itch_table.specs.declared.outcome.Outcome.{Outcome}
use Rattle.itch_table.specs.declared.outcome.Outcome.TheVariants.{Applied, Passed, Refused}
use Rattle.day_replay.specs.Summaries.{is_passed}
use Rattle.itch_engine.proofs.engines.replay.passed_among.Goals as goal
use Rattle.itch_engine.proofs.engines.replay.passed_among.Goals.{in-Passed, in_default}

not_passed : (o : Outcome) → (o ≡ Passed → ⊥) → is_passed o ≡ false
not_passed Applied other = refl
not_passed Passed other = absurd (other refl)
not_passed (Refused fault) other = refl

pub overflow_add-passed : goal.overflow_add-passed
overflow_add-passed c =
    omega (arith, c.loop-outcome.invariant, count_by-le-length is_passed (take c.loop-outcome.outcome-index c.args.found.now), length-take-le c.loop-outcome.outcome-index c.args.found.now (omega (arith, c.loop-outcome-test.true)), c.loop-outcome.auto.outcome-index-end)

pub loop-outcome-preserved : goal.loop-outcome-preserved
loop-outcome-preserved c =
    let found = c.args.found.now in
    let at = c.loop-outcome.outcome-index in
    let more = c.loop-outcome-test.true in
    elim c.match-outcome.branch [
      | in-Passed w ↦ rw w.passed-is (ap (λ (n : ℕ). n + 1) c.loop-outcome.invariant ∙ sym (count_by_more_yes is_passed found at Applied more (ap is_passed w.in-Passed.is)))
      | in_default w ↦ rw w.passed-is (c.loop-outcome.invariant ∙ sym (count_by_more_no is_passed found at Applied more (not_passed _ w.in_default.not-Passed)))
    ]
