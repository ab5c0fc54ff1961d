use Rattle.std.proofs.Common.{All}
use Rattle.stock_workers.specs.Working.{IsWorkerOf, places_of}
use Rattle.top_cell.specs.Boards.{IsOn}
use Rattle.test_stock_workers.proofs.retries.take_turns.Given as goal

abbrev pub invariant-loop-message : goal.invariant-loop-message
invariant-loop-message g l = record {
  worker : IsWorkerOf l.day.payloads l.worker;
  board : All (IsOn l.board) (places_of l.worker);
}
