use Rattle.std.proofs.Common.{◌≡◌, ◌+◌, ℕ, Option, None, Some, ap, subst, sym, refl, arith, take}
use Rattle.itch_table.specs.declared.outcome.Outcome.TheVariants.{Applied}
use Rattle.day_replay.specs.declared.refusals.RefusedMessage.{RefusedMessage}
use Rattle.itch_summary.specs.RefusedCounts.{AreCounts}
use Rattle.itch_summary.proofs.OneRefusedMore.{none_counted, none_more, one_more}
use Rattle.itch_summary.proofs.refusals.refused_counts.Goals.{in-Some, in_default}
use Rattle.itch_summary.proofs.refusals.refused_counts.Goals as goal

none_unless : (found : Option ℕ) → ((x : ℕ) → found ≡ Some x → ⊥) → found ≡ None
none_unless None never = refl
none_unless (Some x) never = absurd (never x refl)

pub loop-message-init : goal.loop-message-init
loop-message-init g c = none_counted c.in_ok-counts.counts.items (c.in_ok-counts.ensures.items_if_clones_equal (λ y is. is))

pub loop-message-preserved : goal.loop-message-preserved
loop-message-preserved g c =
    let refused = c.args.refused.now in
    let i : ℕ = c.loop-message.message-index in
    let counts = c.loop-message.counts.items in
    let none : RefusedMessage = record { message = 0; locate = None; outcome = Applied } in
    elim c.match-message.branch [
      | in-Some w ↦
          subst (AreCounts (take (i + 1) refused)) (sym (ap (λ v. v.items) w.counts-is))
          (one_more refused i none c.loop-message-test.true counts c.loop-message.invariant w.in-Some.locate w.index_mut.result.now w.in-Some.is (omega arith) w.index_mut.ensures.value)
      | in_default w ↦
          subst (AreCounts (take (i + 1) refused)) (sym (ap (λ v. v.items) w.counts-is))
          (none_more refused i none c.loop-message-test.true counts c.loop-message.invariant (none_unless _ w.in_default.not-Some))
    ]
