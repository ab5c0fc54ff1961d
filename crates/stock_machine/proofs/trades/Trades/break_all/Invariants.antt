use Rattle.stock_machine.proofs.Breaking.{AreBroken}
use Rattle.stock_machine.proofs.trades.Trades.break_all.Given as goal

abbrev pub invariant-loop-index : goal.invariant-loop-index
invariant-loop-index g l = AreBroken l.match_no l.initial.self-inside.rows.items l.self-inside.rows.items l.self-inside.totals l.self-inside.rising l.index
