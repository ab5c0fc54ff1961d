use Rattle.std.proofs.Common.{sym, subst}
use Rattle.itch_table.specs.Shows.{locates_of_day}
use Rattle.top_cell.specs.Boards.{AreNew}
use Rattle.test_stock_workers.proofs.OnlyWorker.{all_on, still_on}
use Rattle.test_stock_workers.proofs.runs.screens_read_the_last_message_after_a_run.Goals as goal

pub same_readings-requires-clause-writers : goal.same_readings-requires-clause-writers
same_readings-requires-clause-writers g c =
    let day = c.in_ok-day.day.payloads in
    let board = c.in_ok-board.board in
    let ws = c.first_screen.new.writers.items in
    let new = subst (AreNew day (locates_of_day day) board) (sym c.first_screen.ensures.same) c.in_ok-board.ensures in
    still_on day board ws c.in-Ok.replayed.writers.items c.in-Ok.ensures.writers (all_on day board ws new)
