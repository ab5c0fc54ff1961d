use Rattle.std.proofs.Common.{subst}
use Rattle.itch_table.specs.Shows.{locates_of_day}
use Rattle.top_cell.specs.Boards.{AreNew}
use Rattle.test_top_cell.proofs.Shown.{before_first, last_writer}
use Rattle.test_top_cell.proofs.cells.only_cell.Goals as goal

pub returns : goal.returns
returns g c =
    let day = c.args.day.now.payloads in
    let new = subst (AreNew day (locates_of_day day) c.in_ok-board.board) c.in-Some.ensures.items c.in_ok-board.ensures in
    let last = last_writer _ _ _ _ _ new in
    before_first _ _ _ _ c.payloads-few.ensures.few c.new-2.ensures.world c.new-2.ensures.steps last.0 last.1 last.2
