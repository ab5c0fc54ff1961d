use Rattle.std.proofs.Common.{◌≡◌, ◌<◌, ◌%◌, ◌++◌, ◌∷◌, [], ℕ, length, map, get_or, ap, ap₂, sym, subst, ◌∙◌, arith, List}
use Rattle.std.specs.List.{zip}
use Rattle.std.specs.Option.{option_to_list}
use Rattle.std.proofs.lemmas.List.{take_all, take_more}
use Rattle.day_core.specs.Replaying.{each_worker, values_by}
use Rattle.day_core.proofs.StocksByWorker.{first_of, gives_one, rest_of, room, some_left}
use Rattle.day_core.proofs.ordering.in_order.Goals as goal

pub loop-locate-init : goal.loop-locate-init
loop-locate-init g c = λ values are. record {
  all = c.in_ok-all.ensures.items;
  left =
      subst (λ (locates : List ℕ). map (λ own. own.items) c.in_ok-queues.queues.items ≡ each_worker (values_by c.args.parts.now.workers (zip values locates)) c.args.parts.now.workers) (sym c.locates-locates.ensures.locates)
      ((c.in_ok-queues.ensures {u = tt}) ∙ are.1);
}

pub index_mut-requires : goal.index_mut-requires
index_mut-requires g c =
    let left = (c.loop-locate.invariant c.requires.0 c.requires.1).left in
    let some : 0 < c.args.parts.now.workers = omega (arith, c.workers-workers.ensures) in
    let long : length c.requires.0 ≡ length c.locates-locates.result.now = c.requires.1.0 ∙ ap length (sym c.locates-locates.ensures.locates) in
    let there = room (λ v. v.items) c.args.parts.now.workers c.locates-locates.result.now c.requires.0 c.loop-locate.locate-index c.loop-locate.queues.items some c.loop-locate-test.true long left in
    omega (arith, there, ap₂ ◌%◌ c.from.ensures c.workers-workers.ensures.workers, c.loop-locate.queues.ok.0)

pub unwrap-requires : goal.unwrap-requires
unwrap-requires g c =
    let left = (c.loop-locate.invariant c.requires.0 c.requires.1).left in
    let some : 0 < c.args.parts.now.workers = omega (arith, c.workers-workers.ensures) in
    let long : length c.requires.0 ≡ length c.locates-locates.result.now = c.requires.1.0 ∙ ap length (sym c.locates-locates.ensures.locates) in
    let mine = ap₂ ◌%◌ c.from.ensures c.workers-workers.ensures.workers in
    let full = some_left (λ v. v.items) c.args.parts.now.workers c.locates-locates.result.now c.requires.0 c.loop-locate.locate-index c.loop-locate.queues.items some c.loop-locate-test.true long left c.index_mut.result.now (rw mine at c.index_mut.ensures.value) in
    gives_one c.index_mut.result.now.items c.pop_front.new.self.items c.pop_front.result full c.pop_front.ensures.items c.pop_front.ensures.rest

pub loop-locate-preserved : goal.loop-locate-preserved
loop-locate-preserved g c = λ values are.
    let locates = c.locates-locates.result.now in
    let at = c.loop-locate.locate-index in
    let before = c.loop-locate.invariant values are in
    let some : 0 < c.args.parts.now.workers = omega (arith, c.workers-workers.ensures) in
    let long : length values ≡ length locates = are.0 ∙ ap length (sym c.locates-locates.ensures.locates) in
    let mine = ap₂ ◌%◌ c.from.ensures c.workers-workers.ensures.workers in
    let full = first_of (λ v. v.items) c.args.parts.now.workers locates values at c.loop-locate.queues.items some c.loop-locate-test.true long before.left c.index_mut.result.now c.unwrap.result (rw mine at c.index_mut.ensures.value) in
    let both = ap (λ r. option_to_list r ++ c.pop_front.new.self.items) (sym c.unwrap.ensures) ∙ sym c.pop_front.ensures.items ∙ full in
    let value : c.unwrap.result ≡ get_or values at c.unwrap.result = cc in
    record {
      all = c.in_ok-push.ensures.items ∙ ap₂ (λ xs v. xs ++ v ∷ []) before.all value ∙ sym (take_more values at c.unwrap.result (omega (arith, long, c.loop-locate-test.true)));
      left = rw mine (rest_of (λ v. v.items) c.args.parts.now.workers locates values at c.loop-locate.queues.items some c.loop-locate-test.true long before.left c.pop_front.new.self c.unwrap.result (cc));
    }

pub returns : goal.returns
returns g c = λ values are.
    (c.loop-locate.invariant values are).all ∙ take_all c.loop-locate.locate-index values (omega (arith, are.0, ap length c.locates-locates.ensures.locates))
