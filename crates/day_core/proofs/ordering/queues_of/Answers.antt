use Rattle.std.proofs.Common.{◌++◌, ◌∷◌, [], map, sym, ap, ap₂, ◌∙◌}
use Rattle.std.proofs.lemmas.Iterator.Adapters.{YieldsList-from_vec}
use Rattle.std.proofs.lemmas.Iterator.Consumers.{YieldsList-end}
use Rattle.std.proofs.lemmas.List.{map-append, map-id}
use Rattle.day_core.proofs.ordering.queues_of.Goals as goal

pub loop-list-preserved : goal.loop-list-preserved
loop-list-preserved g c =
    ap (map (λ own. own.items)) c.in_ok-push.ensures.items ∙ map-append (λ own. own.items) c.loop-list.queues.items _
    ∙ ap₂ (λ xs x. xs ++ x ∷ []) c.loop-list.invariant c.from_vec.ensures.items ∙ sym (map-append (λ own. own.items) c.loop-list.yielded _)

pub returns : goal.returns
returns g c =
    let made = c.into_iter-list-iterator.ensures.into_iter_gives in
    let ends = YieldsList-end (YieldsList-from_vec {s = c.into_iter-list-iterator.result} c.args.lists.items made.0 (made.1 ∙ c.args.lists.ok.0)) c.loop-list.yielded c.loop-list.list-iterator c.loop-list.yielded_by c.next.result c.next.new.self c.in-None.is c.next.ensures.steps in
    c.loop-list.invariant ∙ ap (map (λ own. own.items)) (sym (map-id c.loop-list.yielded) ∙ ends.0)
