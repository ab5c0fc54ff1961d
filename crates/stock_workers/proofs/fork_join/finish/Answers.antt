use Rattle.std.proofs.Common.{◌∙◌}
use Rattle.stock_workers.proofs.FinishedWorker.{finished, on_board, under_way_more}
use Rattle.stock_workers.proofs.fork_join.finish.Goals as goal

pub turn-requires-clause-board : goal.turn-requires-clause-board
turn-requires-clause-board g c κs within =
    on_board c.args.board.now c.args.waiting.writers.items c.loop-worker.worker c.requires.waits.on_board c.loop-worker.invariant.same_places

pub loop-worker-preserved : goal.loop-worker-preserved
loop-worker-preserved g c =
    under_way_more c.args.day.now.payloads c.args.parts.now c.args.waiting.worker c.args.waiting.writers.items c.loop-worker.worker c.turn.new.self c.loop-worker.pieces.items c.loop-worker.invariant
    c.in-Some.piece c.push.new.self.items (rw c.in-Some.is at c.in_ok-piece.ensures.turned) c.in_ok-push.ensures.items

pub returns : goal.returns
returns g c =
    let made = finished c.args.day.now.payloads c.args.parts.now c.args.waiting.worker c.args.waiting.writers.items c.loop-worker.worker c.turn.new.self c.loop-worker.pieces.items c.loop-worker.invariant
    (rw c.in_default.is at c.in_ok-piece.ensures.turned) in
    record {
      pieces_are = made.pieces_are;
      stocks_are = c.into_stocks-stocks.ensures.stocks ∙ made.stocks_are;
      writers_are = c.into_stocks-stocks.ensures.writers ∙ made.writers_are;
    }
