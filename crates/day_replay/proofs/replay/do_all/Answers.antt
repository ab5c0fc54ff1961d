use Rattle.std.proofs.Common.{◌≡◌, ◌<◌, [], All, false, length, get_or, sym, ap, subst, ◌∙◌, arith}
use Rattle.std.proofs.lemmas.List.{get_or_default}
use Rattle.day_replay.specs.Batches.{Does, DoesOrFails, MayDo}
use Rattle.day_replay.proofs.BatchSteps.{written_back}
use Rattle.day_replay.proofs.replay.do_all.Goals as goal

pub for_each_mut-requires-clause-accepts : goal.for_each_mut-requires-clause-accepts
for_each_mut-requires-clause-accepts g c κs within = λ i p lt is.
    let same = c.as_mut_slice.ensures.value in
    let below : i < length c.args.all.now = omega (arith, lt, ap length same, c.requires.long) in (
      search,
      search,
      search,
      below,
      subst (MayDo (get_or c.args.all.now i [])) (sym (is ∙ ap (λ xs. get_or xs i p.now) same)) (c.requires.may i [] p.now below),
    )

pub returns-clause-done : goal.returns-clause-done
returns-clause-done g c = λ k d b lt.
    let batches = c.args.batches.now.items in
    let all = c.args.all.now in
    let after = c.for_each_mut.new.s in
    let same = c.as_mut_slice.ensures.value in
    let long : length after ≡ length batches = c.for_each_mut.auto.s ∙ ap length same in
    let whole = written_back after _ c.args.batches.now.len (long ∙ sym c.args.batches.now.ok.0) in
    let below : k < length batches = omega (arith, lt, c.requires.long) in
    let at = (c.for_each_mut.ensures k b (omega (arith, below, ap length same))).1 in
    let does = subst (λ x. DoesOrFails (get_or all k []) x (get_or after k b)) (at.argument_is ∙ ap (λ xs. get_or xs k b) same)
    (subst (λ y. DoesOrFails (get_or all k []) at.argument.now y) at.left at.call) in
    let fine = subst (All (λ b. b.failed ≡ false)) (c.deref.ensures.value ∙ whole) (c.any_failed.ensures c.if-any_failed.false) in
    subst (λ xs. Does (get_or all k d) (get_or batches k b) (get_or xs k b)) (sym whole)
    (subst (λ ms. Does ms (get_or batches k b) (get_or after k b)) (get_or_default all k [] d lt) (does (fine k b (omega (arith, below, long)))))
