use Rattle.std.proofs.Common.{◌<◌, ◌++◌, ◌∷◌, [], List, ℕ, length, ap, sym, ◌∙◌, arith}
use Rattle.std.proofs.lemmas.List.{get_or-map}
use Rattle.checkpoints.proofs.Indexing.{pushed_others, pushed_own}
use Rattle.checkpoints.proofs.index.add_number.Goals as goal

pub returns-clause-own : goal.returns-clause-own
returns-clause-own g c =
    let lists = c.reach.new.lists.items in
    let there : c.from.result < length lists = omega (arith, c.in_ok-reach.ensures.there, c.from.ensures) in
    let here = get_or-map (λ v. v.items) lists c.from.result c.index_mut.result.now [] there in
    let pushed = c.in_ok-push.ensures.items ∙ ap (λ v. v.items ++ c.args.number ∷ []) c.index_mut.ensures.value ∙ ap (λ l. l ++ c.args.number ∷ []) (sym here) in
    rw c.from.ensures (rw c.from.ensures at (pushed_own (λ v. v.items) lists c.from.result there c.push.new.self c.args.number pushed))
    ∙ ap (λ (l : List ℕ). l ++ c.args.number ∷ []) (c.in_ok-reach.ensures.listed c.args.locate)

pub returns-clause-others : goal.returns-clause-others
returns-clause-others g c code differ =
    let lists = c.reach.new.lists.items in
    let there : c.from.result < length lists = omega (arith, c.in_ok-reach.ensures.there, c.from.ensures) in
    let here = get_or-map (λ v. v.items) lists c.from.result c.index_mut.result.now [] there in
    let pushed = c.in_ok-push.ensures.items ∙ ap (λ v. v.items ++ c.args.number ∷ []) c.index_mut.ensures.value ∙ ap (λ l. l ++ c.args.number ∷ []) (sym here) in
    pushed_others (λ v. v.items) lists c.from.result there c.push.new.self c.args.number pushed code (λ same. differ (same ∙ c.from.ensures))
    ∙ c.in_ok-reach.ensures.listed code
