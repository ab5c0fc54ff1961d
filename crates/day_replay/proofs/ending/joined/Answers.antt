use Rattle.std.proofs.Common.{◌≡◌, ◌+◌, ◌++◌, ◌<◌, ℕ, List, [], ap, sym, subst, ◌∙◌, arith}
use Rattle.std.specs.List.Sorted.{IsPermutation}
use Rattle.std.proofs.lemmas.List.Sorted.{IsPermutation-refl}
use Rattle.day_replay.specs.declared.refusals.RefusedMessage.{RefusedMessage}
use Rattle.day_replay.specs.Summaries.{refused_of}
use Rattle.day_replay.proofs.RefusedMessages.{below_all, below_more, below_none, refused_below, refused_by}
use Rattle.day_replay.proofs.WholeDay.{refused_are, refused_is}
use Rattle.day_replay.proofs.ending.joined.Goals as goal

pub loop-batch-init : goal.loop-batch-init
loop-batch-init g c = λ day has.
    subst (λ ps. IsPermutation ps c.new-all.result.items) (sym (below_none day 128))
    (subst (IsPermutation []) (sym c.new-all.ensures.items) (IsPermutation-refl _))

pub loop-batch-preserved : goal.loop-batch-preserved
loop-batch-preserved g c = λ day has.
    let i = c.loop-batch.batch-index in
    let below : i < 128 = omega (arith, c.requires, c.loop-batch-test.true) in
    let b = c.batch-item.result in
    let own : b.refused ≡ refused_by day 128 i = ap (λ b. b.refused) c.batch-item.is ∙ (has i b below).refused_are ∙ refused_is day i in
    let items = (c.in_ok-extend_from_slice.ensures {u = tt}).items ∙ ap (λ (ps : List RefusedMessage). c.loop-batch.all.items ++ ps) (c.refused.ensures ∙ own) in
    subst (IsPermutation (refused_below day 128 (i + 1))) (sym items) (below_more day 128 i c.loop-batch.all.items (c.loop-batch.invariant day has))

pub returns : goal.returns
returns g c = λ day has none.
    let all = c.loop-batch.all.items in
    let done : c.loop-batch.batch-index ≡ 128 = omega (arith, c.requires, c.loop-batch-test.false) in
    let items = (c.in_ok-extend_from_slice-2.ensures {u = tt}).items ∙ ap (λ (ps : List RefusedMessage). all ++ ps) (c.refused-2.ensures ∙ ap (λ f. f.refused) none ∙ refused_are day) in
    subst (IsPermutation (refused_of day)) (sym items)
    (below_all day 128 (omega arith) all (subst (λ (n : ℕ). IsPermutation (refused_below day 128 n) all) done (c.loop-batch.invariant day has)))
