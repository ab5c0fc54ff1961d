use Rattle.std.proofs.Common.{All}
use Rattle.stock_workers.specs.Working.{IsWorkerOf, places_of}
use Rattle.top_cell.specs.Boards.{IsOn}
use Rattle.test_stock_workers.proofs.looks.follow.Given as goal

abbrev pub invariant-loop-after : goal.invariant-loop-after
invariant-loop-after g l = record {
  worker : IsWorkerOf l.day.payloads l.worker;
  board : All (IsOn l.board) (places_of l.worker);
  screen : IsOn l.board l.screen.place;
}
