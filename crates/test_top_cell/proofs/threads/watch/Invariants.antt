use Rattle.top_cell.specs.Boards.{IsOn}
use Rattle.test_top_cell.proofs.threads.watch.Given as goal

abbrev pub invariant-loop : goal.invariant-loop
invariant-loop g l = IsOn l.board l.screen.place
