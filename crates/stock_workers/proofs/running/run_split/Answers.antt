use Rattle.std.proofs.Common.{length, map, sym, ap, ◌∙◌}
use Rattle.day_core.specs.Replaying.{last_machine}
use Rattle.stock_workers.proofs.WorkersTogether.{as_many, waits, all_may_start, stocks_by_worker, writers_by_worker}
use Rattle.stock_workers.proofs.running.run_split.Goals as goal

pub finish_all-requires-clause-wait : goal.finish_all-requires-clause-wait
finish_all-requires-clause-wait g c κs within =
    all_may_start c.args.day.now.payloads c.args.parts.now c.args.writers.items c.in_ok-waiting.waiting.items c.args.board.now c.in_ok-waiting.ensures
    (λ k lt. waits c.args.day.now.payloads c.args.board.now c.args.writers.items c.requires.new c.args.parts.now c.requires.parts.locates_are k)

pub outcomes_of-requires-clause-pieces : goal.outcomes_of-requires-clause-pieces
outcomes_of-requires-clause-pieces g c = (c.in_ok-gathered.ensures c.args.day.now.payloads c.args.parts.now c.args.writers.items (c.in_ok-made.ensures c.args.writers.items c.in_ok-waiting.ensures)).pieces_are

pub in_order-requires : goal.in_order-requires
in_order-requires g c =
    (_, stocks_by_worker (c.in_ok-gathered.ensures c.args.day.now.payloads c.args.parts.now c.args.writers.items (c.in_ok-made.ensures c.args.writers.items c.in_ok-waiting.ensures)))

pub in_order-requires-2 : goal.in_order-requires-2
in_order-requires-2 g c =
    let long = as_many c.args.day.now.payloads c.args.board.now c.args.writers.items c.requires.new ∙ ap length (sym c.requires.parts.locates_are) in
    (_, writers_by_worker long (c.in_ok-gathered.ensures c.args.day.now.payloads c.args.parts.now c.args.writers.items (c.in_ok-made.ensures c.args.writers.items c.in_ok-waiting.ensures)))

pub returns-clause-replayed : goal.returns-clause-replayed
returns-clause-replayed g c =
    let gathered = c.in_ok-gathered.ensures c.args.day.now.payloads c.args.parts.now c.args.writers.items (c.in_ok-made.ensures c.args.writers.items c.in_ok-waiting.ensures) in
    record {
      outcomes_are = c.in_ok-outcomes_of.ensures {u = tt};
      stocks_are = c.in_ok-in_order.ensures _ (stocks_by_worker gathered) ∙ ap (map (last_machine c.args.day.now.payloads)) c.requires.parts.locates_are;
      event_is = c.event.ensures ∙ c.requires.parts.event_is;
    }

pub returns-clause-writers : goal.returns-clause-writers
returns-clause-writers g c =
    let long = as_many c.args.day.now.payloads c.args.board.now c.args.writers.items c.requires.new ∙ ap length (sym c.requires.parts.locates_are) in
    c.in_ok-in_order-2.ensures _ (writers_by_worker long (c.in_ok-gathered.ensures c.args.day.now.payloads c.args.parts.now c.args.writers.items (c.in_ok-made.ensures c.args.writers.items c.in_ok-waiting.ensures)))
