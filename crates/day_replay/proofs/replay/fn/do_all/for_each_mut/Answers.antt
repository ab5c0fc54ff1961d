use Rattle.std.proofs.Common.{◌≡◌, ℕ, List, [], get_or, sym, subst, ◌∙◌}
use Rattle.std.proofs.lemmas.List.{get_or_default}
use Rattle.day_replay.specs.Batches.{DoesOrFails}
use Rattle.day_replay.proofs.replay.fn.do_all.for_each_mut.Goals as goal

pub returns : goal.returns
returns g c =
    let x = c.index-all-index.result in
    let same : get_or c.captures.all.now c.args.index [] ≡ x = get_or_default c.captures.all.now c.args.index [] x c.requires.3 ∙ sym c.index-all-index.is in
    subst (λ (ms : List (ℕ × List ℕ)). DoesOrFails ms c.args.batch.now c.do_or_fail.new.self) (sym same) c.do_or_fail.ensures
