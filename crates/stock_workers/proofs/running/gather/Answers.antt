use Rattle.std.proofs.Common.{◌≡◌, ℕ, length, map, get_or, sym, ap, ◌∙◌, arith}
use Rattle.std.specs.List.{range_with_len}
use Rattle.std.proofs.lemmas.Iterator.Adapters.{YieldsList-from_vec}
use Rattle.std.proofs.lemmas.Iterator.Consumers.{YieldsList-end, YieldsList-turn}
use Rattle.std.proofs.lemmas.List.{length_push}
use Rattle.std.proofs.lemmas.Result.{IfOk-at_ok}
use Rattle.day_core.specs.Replaying.{last_machine, own_values, pieces_by}
use Rattle.day_core.proofs.StocksByWorker.{one_more}
use Rattle.stock_workers.specs.Running.{IsFinished, at_last}
use Rattle.stock_workers.specs.Working.{codes_by}
use Rattle.stock_workers.proofs.running.gather.Goals as goal

pub loop-one-init : goal.loop-one-init
loop-one-init g c = λ day parts writers are. record {
  pieces = ap (map (λ own. own.items)) c.in_ok-pieces.ensures.items;
  stocks = ap (map (λ own. own.items)) c.in_ok-stocks.ensures.items;
  writers = ap (map (λ own. own.items)) c.in_ok-writers.ensures.items;
}

pub loop-one-preserved : goal.loop-one-preserved
loop-one-preserved g c = λ day parts writers are.
    let made = c.args.made.items in
    let before = c.loop-one in
    let at = length before.yielded in
    let one = c.in-Some.one in
    let gives = c.into_iter-one-iterator.ensures.into_iter_gives in
    let turn = YieldsList-turn (YieldsList-from_vec {s = c.into_iter-one-iterator.result} made gives.0 (gives.1 ∙ c.args.made.ok.0)) before.yielded before.one-iterator before.yielded_by c.next.result c.next.new.self one c.in-Some.is c.next.ensures.steps in
    let here : one ≡ get_or made at one = turn.1 in
    let was = sym here ∙ c.in_ok-finished.was in
    let has = IfOk-at_ok (λ m. IsFinished day parts at (own_values parts writers at) m.pieces.items m.stocks.items m.writers.items) was (are.each at one (omega (arith, turn.0, are.long))) in
    let kept = before.invariant day parts writers are in
    rw length_push record {
      pieces = one_more (λ own. own.items) (pieces_by day parts.workers) before.pieces.items _ _ at kept.pieces c.in_ok-push.ensures.items has.pieces_are;
      stocks = one_more (λ own. own.items) (λ w. map (last_machine day) (codes_by parts w)) before.stocks.items _ _ at kept.stocks c.in_ok-push-2.ensures.items has.stocks_are;
      writers =
          one_more (λ own. own.items) (λ w. map (at_last day) (own_values parts writers w)) before.writers.items _ _ at kept.writers c.in_ok-push-3.ensures.items has.writers_are;
    }

pub returns : goal.returns
returns g c = λ day parts writers are.
    let gives = c.into_iter-one-iterator.ensures.into_iter_gives in
    let ends = YieldsList-end (YieldsList-from_vec {s = c.into_iter-one-iterator.result} c.args.made.items gives.0 (gives.1 ∙ c.args.made.ok.0)) c.loop-one.yielded c.loop-one.one-iterator c.loop-one.yielded_by c.next.result c.next.new.self c.in-None.is c.next.ensures.steps in
    let all : length c.loop-one.yielded ≡ parts.workers = ends.1 ∙ are.long in
    let kept = c.loop-one.invariant day parts writers are in
    record {
      pieces_are = kept.pieces ∙ ap (λ (n : ℕ). map (pieces_by day parts.workers) (range_with_len 0 n)) all;
      stocks_are = kept.stocks ∙ ap (λ (n : ℕ). map (λ w. map (last_machine day) (codes_by parts w)) (range_with_len 0 n)) all;
      writers_are = kept.writers ∙ ap (λ (n : ℕ). map (λ w. map (at_last day) (own_values parts writers w)) (range_with_len 0 n)) all;
    }
