use Rattle.std.proofs.Common.{ap, sym, ◌∙◌, subst}
use Rattle.top_cell.specs.Boards.{IsOn, WriterAt}
use Rattle.test_top_cell.proofs.changes.end_change.Goals as goal

pub returns : goal.returns
returns g c =
    let changing = c.requires.changing in
    record {
      few = changing.few;
      world = changing.world;
      within = changing.within;
      day_is = ap (λ (w : WriterAt). w.place.day) c.end.ensures ∙ changing.day_is;
      on = subst (λ (w : WriterAt). IsOn c.args.board.now w.place) (sym c.end.ensures) changing.on;
      message = ap (λ (w : WriterAt). w.message) c.end.ensures ∙ changing.to;
    }
