use Rattle.std.proofs.Common.{arith, sym, subst}
use Rattle.top_cell.specs.Boards.{ScreenAt, IsOn}
use Rattle.std.proofs.lemmas.Option.{slice_get_within}
use Rattle.top_cell.proofs.BoardCells.{seat_on}
use Rattle.top_cell.proofs.OpenSplitJoin.{screen_splits}
use Rattle.top_cell.proofs.screen.Screen.split.Goals as goal

pub cell-cell-requires : goal.cell-cell-requires
cell-cell-requires g c = slice_get_within c.args.board.now _ _ (subst (λ (w : ScreenAt). IsOn c.args.board.now w.place) (sym c.self.view_is) c.requires)

pub split_seat-requires : goal.split_seat-requires
split_seat-requires g c =
    let on = subst (λ (w : ScreenAt). IsOn c.args.board.now w.place) (sym c.self.view_is) c.requires in
    let e = c.cell-cell.ensures in
    let of = seat_on c.args.board.now _ c.self.inside.seat _ on e.table e.five in
    (of.0, omega (arith, of.1), screen_splits _ _ _ _ c.self.invariant.0.0)
