use Rattle.std.proofs.Common.{◌<◌, sym, subst}
use Rattle.top_cell.specs.Boards.{ChangeAt, IsOn}
use Rattle.std.proofs.lemmas.Option.{slice_get_within}
use Rattle.top_cell.proofs.BoardCells.{seat_on}
use Rattle.top_cell.proofs.steps.Opened.put.Goals as goal

pub cell-requires : goal.cell-requires
cell-requires g c = slice_get_within c.args.board.now _ _ (subst (λ (w : ChangeAt). IsOn c.args.board.now w.place) (sym c.self.view_is) c.requires.own)

pub put_word-requires-clause-seat : goal.put_word-requires-clause-seat
put_word-requires-clause-seat g c =
    let on = subst (λ (w : ChangeAt). IsOn c.args.board.now w.place) (sym c.self.view_is) c.requires.own in
    let e = c.cell.ensures in
    seat_on c.args.board.now _ c.self.inside.seat _ on e.table e.five

pub put_word-requires-clause-writing : goal.put_word-requires-clause-writing
put_word-requires-clause-writing g c =
    let i = c.self.invariant in
    let left = subst (λ (w : ChangeAt). w.put < 4) (sym c.self.view_is) c.requires.left in
    (i.0, left, sym i.2)
