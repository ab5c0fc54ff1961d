use Rattle.std.proofs.Common.{drop, arith}
use Rattle.itch_readings.proofs.MarkedTrades.{mark_all, mark_next, mark_none}
use Rattle.itch_readings.proofs.broken_trades.mark_broken.Goals as goal

pub loop-index-init : goal.loop-index-init
loop-index-init g c = mark_none c.args.events.now _ c.new-breaks.ensures

pub loop-index-preserved : goal.loop-index-preserved
loop-index-preserved g c =
    let old = c.args.events.now in
    let events = c.loop-index.events in
    let index = c.loop-index.index in
    mark_next old events index c.loop-index.breaks.numbers c.take.new.self.numbers _ c.take.new.event (omega arith) (omega arith) (omega arith) c.loop-index.invariant
    (c.in_ok-take.ensures {u = tt} (drop index old) c.loop-index.invariant.breaks)

pub returns : goal.returns
returns g c = mark_all c.args.events.now c.loop-index.events c.loop-index.index _ (omega arith) c.loop-index.invariant
