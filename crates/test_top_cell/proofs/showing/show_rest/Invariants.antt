use Rattle.std.proofs.Common.{◌≡◌}
use Rattle.test_top_cell.specs.Showing.{AreInStep}
use Rattle.test_top_cell.proofs.showing.show_rest.Given as goal

abbrev pub invariant-loop : goal.invariant-loop
invariant-loop g l = record {
  in_step : AreInStep l.day.payloads l.board l.machine l.writer;
  place : l.writer.place ≡ l.initial.writer.place;
  taken : l.machine.steps ≡ l.counter;
}
