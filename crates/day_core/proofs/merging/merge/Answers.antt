use Rattle.std.proofs.Common.{◌≡◌, length, map, ap, ◌∙◌, rules}
use Rattle.std.proofs.lemmas.Iterator.Adapters.{YieldsList-from_flatten, YieldsList-from_vec}
use Rattle.std.proofs.lemmas.Iterator.Consumers.{YieldsList-at}
use Rattle.std.proofs.lemmas.List.Folds.{flat_map-map}
use Rattle.std.proofs.lemmas.Result.{err_from_is_err_and, IfErr-weaker, IfOk-weaker}
use Rattle.day_core.specs.Merging.{AreFilled, Holds, joined}
use Rattle.day_core.proofs.MergedDay.{all_held, least_missing, merged_all, next_fault}
use Rattle.day_core.proofs.merging.merge.Given as given
use Rattle.day_core.proofs.merging.merge.Goals as goal

pub loop-piece-preserved : goal.loop-piece-preserved
loop-piece-preserved g c = record { long = search rules; placed = c.in_ok-place.ensures.placed c.loop-piece.yielded c.loop-piece.invariant.placed }

pub returns-in_err-place-clause-fault : goal.returns-in_err-place-clause-fault
returns-in_err-place-clause-fault g c =
    let made = c.flatten-piece-items.ensures in
    let lists = YieldsList-at made.source (YieldsList-from_vec {s = c.into_iter.result} c.args.pieces.items c.into_iter.ensures.rest (c.into_iter.ensures.len ∙ c.args.pieces.ok.0)) in
    let loop = c.loop-piece in
    let fault =
    next_fault (YieldsList-at c.into_iter-piece-iterator.ensures.into_iter_gives (YieldsList-from_flatten _ _ (λ p. p) (λ list. list.items) (λ list rest is. YieldsList-from_vec {s = rest} list.items is.0 (is.1 ∙ list.ok.0)) lists made.front made.back made.done))
    loop.yielded loop.piece-iterator loop.yielded_by loop.slots.items loop.invariant.placed c.next.result c.next.new.self c.next.ensures.steps c.in-Some.piece _ c.in-Some.is (c.in_err-place.ensures.placed loop.yielded loop.invariant.placed) in
    let exit = err_from_is_err_and c.from_residual-in_err-place.result c.from_residual-in_err-place.ensures.1 in
    let same : exit.0 ≡ c.in_err-place.field-0.0 = exit.2 in
    rw (exit.1, same, ← loop.invariant.long, flat_map-map) fault

-- what the slots hold once all pieces are placed
held : (g : given.Over) (c : goal.After-drop-slots-2 g) → Holds (joined (map (λ v. v.items) c.args.pieces.items)) c.deref.result.now
held g c =
    let made = c.flatten-piece-items.ensures in
    let lists = YieldsList-at made.source (YieldsList-from_vec {s = c.into_iter.result} c.args.pieces.items c.into_iter.ensures.rest (c.into_iter.ensures.len ∙ c.args.pieces.ok.0)) in
    let loop = c.loop-piece in
    rw (c.deref.ensures.value, flat_map-map)
    (all_held (YieldsList-at c.into_iter-piece-iterator.ensures.into_iter_gives (YieldsList-from_flatten _ _ (λ p. p) (λ list. list.items) (λ list rest is. YieldsList-from_vec {s = rest} list.items is.0 (is.1 ∙ list.ok.0)) lists made.front made.back made.done))
    loop.yielded loop.piece-iterator loop.yielded_by loop.slots.items loop.invariant.placed c.next.result c.next.new.self c.next.ensures.steps c.in-None.is)

-- one for each message
as_many : (g : given.Over) (c : goal.After-drop-slots-2 g) → length c.deref.result.now ≡ c.args.messages
as_many g c = ap length c.deref.ensures.value ∙ c.loop-piece.invariant.long

pub returns-clause-merged : goal.returns-clause-merged
returns-clause-merged g c =
    IfOk-weaker c.gathered.result (λ outcomes. AreFilled c.deref.result.now outcomes.items) _
    (λ outcomes filled. rw (← as_many g c) (merged_all _ c.deref.result.now outcomes.items (held g c) filled)) c.gathered.ensures.ok

pub returns-clause-fault : goal.returns-clause-fault
returns-clause-fault g c =
    IfErr-weaker c.gathered.result _ _
    (λ fault empty. rw (← as_many g c) (least_missing _ c.deref.result.now fault (held g c) empty)) c.gathered.ensures.missing
