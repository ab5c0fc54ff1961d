use Rattle.top_cell.specs.Boards.{IsOn}
use Rattle.test_stock_workers.proofs.gates.see_first.Given as goal

abbrev pub invariant-loop : goal.invariant-loop
invariant-loop g l = IsOn l.board l.screen.place
