use Rattle.std.proofs.Common.{◌≡◌, ◌++◌, ◌∷◌, [], ℕ, length, map, sym, ap, ◌∙◌, arith}
use Rattle.std.specs.Iterator.Adapters.{zip_first, zip_second}
use Rattle.std.specs.List.{range_with_len, zip}
use Rattle.std.specs.Vec.Iter.{into_iter_items, into_iter_len}
use Rattle.std.proofs.lemmas.Iterator.{YieldsList-from_range, YieldsList-from_zip}
use Rattle.std.proofs.lemmas.Iterator.Adapters.{YieldsList-from_vec}
use Rattle.std.proofs.lemmas.Iterator.Consumers.{YieldsList-end}
use Rattle.std.proofs.lemmas.List.{length-map, map-append, map-id}
use Rattle.std.proofs.lemmas.List.FromFn.{length-map-range_with_len, length-range_with_len}
use Rattle.std.proofs.lemmas.Slice.Zip.{firsts-zip, seconds-zip}
use Rattle.day_core.specs.Replaying.{own_values}
use Rattle.stock_workers.proofs.WorkersTogether.{map_twice}
use Rattle.stock_workers.proofs.running.waiting_workers.Goals as goal

pub loop-worker-init : goal.loop-worker-init
loop-worker-init g c = record {
  numbers = ap (map (λ w. w.worker)) c.in_ok-all.ensures.items;
  writers = ap (map (λ w. w.writers)) c.in_ok-all.ensures.items;
}

pub loop-worker-preserved : goal.loop-worker-preserved
loop-worker-preserved g c =
    let before = c.loop-worker in
    record {
      numbers = ap (map (λ w. w.worker)) c.in_ok-push.ensures.items ∙ map-append (λ w. w.worker) before.all.items _ ∙ ap (λ xs. xs ++ c.in-Some.worker ∷ []) before.invariant.numbers ∙ sym (map-append (λ p. p.0) before.yielded _);
      writers = ap (map (λ w. w.writers)) c.in_ok-push.ensures.items ∙ map-append (λ w. w.writers) before.all.items _ ∙ ap (λ xs. xs ++ c.in-Some.writers ∷ []) before.invariant.writers ∙ sym (map-append (λ p. p.1) before.yielded _);
    }

pub returns : goal.returns
returns g c =
    let lists = c.in_ok-lists.lists.items in
    let count = c.workers-count.result in
    let done = c.loop-worker in
    let s = c.into_iter-worker-iterator.result in
    let begun = c.into_iter-worker-iterator.ensures.into_iter_gives in
    let numbers : zip_first s ≡ record { start = 0; end = count } = ap zip_first begun ∙ c.zip-worker-items.ensures.first in
    let items : into_iter_items (zip_second s) ≡ lists = ap (λ z. into_iter_items (zip_second z)) begun ∙ c.zip-worker-items.ensures.second.0 in
    let long : into_iter_len (zip_second s) ≡ length lists = ap (λ z. into_iter_len (zip_second z)) begun ∙ c.zip-worker-items.ensures.second.1 ∙ c.in_ok-lists.lists.ok.0 in
    let road = YieldsList-from_zip {s = s} (YieldsList-from_range {s = zip_first s} 0 count count numbers (omega arith)) (YieldsList-from_vec {s = zip_second s} lists items long) in
    let ends = YieldsList-end road done.yielded done.worker-iterator done.yielded_by c.next.result c.next.new.self c.in-None.is c.next.ensures.steps in
    let all : done.yielded ≡ zip (range_with_len 0 count) lists = sym (map-id done.yielded) ∙ ends.0 in
    let same : length lists ≡ length (range_with_len 0 count) = omega (arith, sym (length-map lists (λ own. own.items)), ap length c.in_ok-lists.ensures, length-map-range_with_len (own_values c.args.parts.now c.args.writers.items) 0 c.args.parts.now.workers, c.workers-count.ensures.workers, length-range_with_len 0 count) in
    let counted = ap (map (λ p. p.0)) all ∙ firsts-zip (range_with_len 0 count) lists same in
    let workers = c.workers-count.ensures.workers in
    record {
      numbers_are = done.invariant.numbers ∙ counted ∙ sym (map-id (range_with_len 0 count)) ∙ ap (λ (n : ℕ). map (λ (k : ℕ). k) (range_with_len 0 n)) workers;
      writers_are =
          sym (map_twice (λ v. v.items) (λ w. w.writers) done.all.items) ∙ ap (map (λ v. v.items)) (done.invariant.writers ∙ ap (map (λ p. p.1)) all ∙ seconds-zip (range_with_len 0 count) lists same)
          ∙ c.in_ok-lists.ensures;
    }
