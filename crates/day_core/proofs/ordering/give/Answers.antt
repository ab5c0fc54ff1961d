use Rattle.std.proofs.Common.{◌++◌, ◌∷◌, [], map, set, ap, sym, ◌∙◌}
use Rattle.std.proofs.lemmas.List.{map-set, get_or-map}
use Rattle.day_core.proofs.ordering.give.Goals as goal

pub returns : goal.returns
returns g c =
    let lists = c.args.lists.now.items in
    let worker = c.args.worker in
    let here = get_or-map (λ v. v.items) lists worker c.index_mut.result.now [] c.requires in
    let pushed = c.in_ok-push.ensures.items ∙ ap (λ v. v.items ++ c.args.value ∷ []) c.index_mut.ensures.value ∙ ap (λ l. l ++ c.args.value ∷ []) (sym here) in
    map-set (λ v. v.items) lists worker c.push.new.self ∙ ap (λ l. set (map (λ v. v.items) lists) worker l) pushed
