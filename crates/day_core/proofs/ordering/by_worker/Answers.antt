use Rattle.std.proofs.Common.{◌≡◌, ◌<◌, ◌++◌, ◌∷◌, [], ℕ, length, get_or, set, map, ap, sym, ◌∙◌, arith, map-id}
use Rattle.std.specs.Iterator.Adapters.{zip_first, zip_second}
use Rattle.std.specs.List.{zip}
use Rattle.std.specs.Vec.Iter.{into_iter_items, into_iter_len}
use Rattle.std.proofs.lemmas.Iterator.{YieldsList-from_zip}
use Rattle.std.proofs.lemmas.Iterator.Adapters.{YieldsList-from_vec}
use Rattle.std.proofs.lemmas.Iterator.Consumers.{YieldsList-end}
use Rattle.std.proofs.lemmas.List.{length-map}
use Rattle.std.proofs.lemmas.List.FromFn.{length-map-range_with_len}
use Rattle.std.proofs.lemmas.Nat.{mod_below}
use Rattle.day_core.specs.Owners.{owner}
use Rattle.day_core.specs.Replaying.{each_worker, values_by}
use Rattle.day_core.proofs.StocksByWorker.{none_yet, value_more}
use Rattle.day_core.proofs.ordering.by_worker.Goals as goal

pub loop-value-init : goal.loop-value-init
loop-value-init g c = none_yet c.workers-workers.result _ (c.in_ok-lists.ensures {u = tt})

pub give-requires : goal.give-requires
give-requires g c =
    let workers = c.workers-workers.result in
    let long = ap length c.loop-value.invariant ∙ length-map-range_with_len (values_by workers c.loop-value.yielded) 0 workers in
    omega (arith, mod_below c.from.result workers (omega (arith, c.workers-workers.ensures)), long, length-map c.loop-value.lists.items (λ own. own.items))

pub loop-value-preserved : goal.loop-value-preserved
loop-value-preserved g c =
    let workers = c.workers-workers.result in
    let lists = map (λ own. own.items) c.loop-value.lists.items in
    let some : 0 < workers = omega (arith, c.workers-workers.ensures) in
    c.in_ok-give.ensures ∙ ap (λ (l : ℕ). set lists (owner workers l) (get_or lists (owner workers l) [] ++ c.in-Some.value ∷ [])) c.from.ensures
    ∙ value_more workers c.loop-value.yielded c.in-Some.value c.in-Some.locate lists some c.loop-value.invariant

pub returns : goal.returns
returns g c =
    let done = c.loop-value in
    let s = c.into_iter-value-iterator.result in
    let values = c.args.values in
    let locates = c.in_ok-locates.locates in
    let begun = c.into_iter-value-iterator.ensures.into_iter_gives in
    let first : into_iter_items (zip_first s) ≡ values.items = ap (λ z. into_iter_items (zip_first z)) begun ∙ ap into_iter_items c.zip-value-items.ensures.first ∙ c.into_iter.ensures.rest in
    let many : into_iter_len (zip_first s) ≡ length values.items = ap (λ z. into_iter_len (zip_first z)) begun ∙ ap into_iter_len c.zip-value-items.ensures.first ∙ c.into_iter.ensures.len ∙ values.ok.0 in
    let second : into_iter_items (zip_second s) ≡ locates.items = ap (λ z. into_iter_items (zip_second z)) begun ∙ c.zip-value-items.ensures.second.0 in
    let long : into_iter_len (zip_second s) ≡ length locates.items = ap (λ z. into_iter_len (zip_second z)) begun ∙ c.zip-value-items.ensures.second.1 ∙ locates.ok.0 in
    let road = YieldsList-from_zip {s = s} (YieldsList-from_vec {s = zip_first s} values.items first many) (YieldsList-from_vec {s = zip_second s} locates.items second long) in
    let ends = YieldsList-end road done.yielded done.value-iterator done.yielded_by c.next.result c.next.new.self c.in-None.is c.next.ensures.steps in
    let all : done.yielded ≡ zip values.items c.args.parts.now.locates = sym (map-id done.yielded) ∙ ends.0 ∙ ap (zip values.items) (c.in_ok-locates.ensures.items ∙ c.locates.ensures.locates) in
    let workers = c.workers-workers.ensures.workers in
    done.invariant ∙ (λ i. each_worker (values_by (workers i) (all i)) (workers i))
