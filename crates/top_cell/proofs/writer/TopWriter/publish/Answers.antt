use Rattle.std.proofs.Common.{◌≡◌, ◌≤◌, length, sym, subst, arith}
use Rattle.itch_table.specs.Shows.{top_after}
use Rattle.top_cell.specs.Boards.{WriterAt, IsOn}
use Rattle.std.proofs.lemmas.Option.{slice_get_within}
use Rattle.top_cell.proofs.BoardCells.{seat_on}
use Rattle.top_cell.proofs.CellWords.{shows_words}
use Rattle.top_cell.proofs.writer.TopWriter.publish.Goals as goal

pub cell-requires : goal.cell-requires
cell-requires g c = slice_get_within c.args.board.now _ _ (subst (λ (w : WriterAt). IsOn c.args.board.now w.place) (sym c.self.view_is) c.requires.own)

pub write-requires : goal.write-requires
write-requires g c =
    let s = sym c.self.view_is in
    let i = c.self.invariant in
    let on = subst (λ (w : WriterAt). IsOn c.args.board.now w.place) s c.requires.own in
    let later = subst (λ (w : WriterAt). w.message ≤ c.args.message) s c.requires.later in
    let last = subst (λ (w : WriterAt). c.args.message ≤ length w.place.day) s c.requires.within in
    let top = subst (λ (w : WriterAt). c.args.top ≡ top_after w.place.day w.place.locate c.args.message) s c.requires.top in
    let e = c.cell.ensures in
    let shows = shows_words _ c.args.message c.args.top _ last top c.to_words-words.ensures in
    record { seat = seat_on c.args.board.now _ c.self.inside.seat _ on e.table e.five; idle = (i.0, i.3); words = (shows.0, grind (arith, shows.1, i.1, later, c.if-message-self.false)) }
