use Rattle.std.proofs.Common.{sym, subst}
use Rattle.std.proofs.lemmas.Option.{slice_get-get_or}
use Rattle.itch_table.specs.Shows.{locates_of_day}
use Rattle.top_cell.specs.Boards.{AreNew}
use Rattle.test_stock_workers.proofs.OnlyWorker.{only_waits}
use Rattle.test_stock_workers.proofs.alone.prepare.Goals as goal

pub returns-clause-waits : goal.returns-clause-waits
returns-clause-waits g c =
    let day = c.args.day.now.payloads in
    let board = c.in_ok-board.board in
    let ws = c.first_screen.new.writers.items in
    let new = subst (AreNew day (locates_of_day day) board) (sym c.first_screen.ensures.same) c.in_ok-board.ensures in
    only_waits day board ws new

pub first_screen-requires : goal.first_screen-requires
first_screen-requires g c k d inside = (c.in_ok-board.ensures.each k _ (slice_get-get_or c.in_ok-board.writers.items k d inside)).1
