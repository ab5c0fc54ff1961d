use Rattle.std.proofs.Common.{◌∙◌, refl, subst, sym}
use Rattle.top_cell.specs.Boards.{IsOn}
use Rattle.itch_watch.proofs.SeenReadings.{seen_at}
use Rattle.itch_watch.proofs.watching.watch.Goals as goal

pub loop-preserved : goal.loop-preserved
loop-preserved g c =
    let before = c.loop.invariant in
    let place = c.look.ensures.place in
    record {
      place = place ∙ before.place;
      on = subst (IsOn c.args.board.now) (sym place) before.on;
      seen = seen_at c.loop.screen.place c.look.new.screen.place c.look.new.readings.items c.look.new.readings.items place refl (c.look.ensures.seen before.seen);
      noted = λ zero. c.in_ok-look.ensures.noted (before.noted zero);
    }

pub returns-then-load-ne0-clause-noted : goal.returns-then-load-ne0-clause-noted
returns-then-load-ne0-clause-noted g c = c.loop.invariant.noted
