use Rattle.itch_readings.proofs.MarkedTrades.{IsMarked}
use Rattle.itch_readings.proofs.broken_trades.mark_broken.Given as goal

abbrev pub invariant-loop-index : goal.invariant-loop-index
invariant-loop-index g l = IsMarked l.fn.events l.events l.index l.breaks.numbers
