use Rattle.std.proofs.Common.{◌≡◌, ◌∙◌, sym, subst}
use Rattle.top_cell.specs.Boards.{ChangeAt, IsOn}
use Rattle.std.proofs.lemmas.Option.{slice_get_within}
use Rattle.top_cell.proofs.BoardCells.{seat_on}
use Rattle.top_cell.proofs.steps.Opened.end.Goals as goal

pub cell-requires : goal.cell-requires
cell-requires g c = slice_get_within c.args.board.now _ _ (subst (λ (w : ChangeAt). IsOn c.args.board.now w.place) (sym c.self.view_is) c.requires.own)

pub end_write-requires : goal.end_write-requires
end_write-requires g c =
    let s = sym c.self.view_is in
    let i = c.self.invariant in
    let on = subst (λ (w : ChangeAt). IsOn c.args.board.now w.place) s c.requires.own in
    let all = subst (λ (w : ChangeAt). w.put ≡ 4) s c.requires.all in
    let e = c.cell.ensures in
    record { seat = seat_on c.args.board.now _ c.self.inside.seat _ on e.table e.five; writing = (i.0, i.2 ∙ all, i.6) }
