use Rattle.std.proofs.Common.{◌≡◌, ◌∙◌, ℕ, List, Some, ap, arith, sym, subst}
use Rattle.std.specs.Prelude.{slice_get}
use Rattle.top_cell.specs.Boards.{AreApart, CellId, ScreenAt, IsOn}
use Rattle.std.proofs.lemmas.Option.{slice_get_within}
use Rattle.top_cell.proofs.BoardCells.{seat_on}
use Rattle.top_cell.proofs.OpenSplitJoin.{screens_join}
use Rattle.top_cell.proofs.screen.Screen.join.Goals as goal

pub cell-cell-requires : goal.cell-cell-requires
cell-cell-requires g c = slice_get_within c.args.board.now _ _ (subst (λ (w : ScreenAt). IsOn c.args.board.now w.place) (sym c.self.view_is) c.requires.own)

-- the cells of one stock are one
one_cell : (board : List CellId) (i j : ℕ) (c d : CellId) → AreApart board → slice_get board i ≡ Some c → slice_get board j ≡ Some d → c.locate ≡ d.locate → c ≡ d
one_cell board i j c d apart there here same =
    let found : Some c ≡ Some d = sym there ∙ ap (slice_get board) (apart i j c d there here same) ∙ here in cc

pub join_seat-requires : goal.join_seat-requires
join_seat-requires g c =
    let s = sym c.self.view_is in
    let t = sym c.other.view_is in
    let on = subst (λ (w : ScreenAt). IsOn c.args.board.now w.place) s c.requires.own in
    let there = subst (λ (w : ScreenAt). IsOn c.args.board.now w.place) t c.requires.other in
    let same = subst (λ (z : ScreenAt × ScreenAt). z.1.place.locate ≡ z.0.place.locate) (λ i. (s i, t i)) c.requires.same in
    let e = c.cell-cell.ensures in
    let of = seat_on c.args.board.now _ c.self.inside.seat _ on e.table e.five in
    let one = one_cell c.args.board.now _ _ _ _ e.apart there on same in (
      of.0,
      ap (λ (d : CellId). d.table) one ∙ of.0,
      c.other.invariant.4,
      omega (arith, of.1),
      screens_join _ _ _ _ _ _ _ _ c.self.invariant.0.0 c.other.invariant.0.0,
    )
