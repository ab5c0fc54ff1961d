use Rattle.std.proofs.Common.{sym, subst}
use Rattle.top_cell.specs.Boards.{ScreenAt, IsOn}
use Rattle.std.proofs.lemmas.Option.{slice_get_within}
use Rattle.top_cell.proofs.BoardCells.{seat_on}
use Rattle.top_cell.proofs.screen.Screen.glance.Goals as goal

pub cell-requires : goal.cell-requires
cell-requires g c = slice_get_within c.args.board.now _ _ (subst (λ (w : ScreenAt). IsOn c.args.board.now w.place) (sym c.self.view_is) c.requires.own)

pub try_times-requires : goal.try_times-requires
try_times-requires g c =
    let on = subst (λ (w : ScreenAt). IsOn c.args.board.now w.place) (sym c.self.view_is) c.requires.own in
    let e = c.cell.ensures in
    record { seat = seat_on c.args.board.now _ c.self.inside.seat _ on e.table e.five; screen = c.self.invariant.0; tries = c.requires.tries }
