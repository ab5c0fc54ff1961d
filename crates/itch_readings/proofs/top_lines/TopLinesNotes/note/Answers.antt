use Rattle.std.proofs.Common.{◌∙◌, ◌++◌, ℕ, ap}
use Rattle.itch_readings.specs.TopLines.{shown_line}
use Rattle.itch_readings.proofs.TopLinesMore.{one_line_more}
use Rattle.itch_readings.proofs.top_lines.TopLinesNotes.note.Goals as goal

pub returns : goal.returns
returns g c = λ first before lines.
    let self = c.args.self.now in
    one_line_more first.selection self.selection self.before self.text.items before lines c.args.number c.args.payload.now c.args._named c.args._outcome c.args.stock.now c.top.result c.top.ensures c.put_shown.new.text.items
    (c.in_ok-put_shown.ensures {u = tt}
    ∙ ap (λ (time : ℕ). self.text.items ++ shown_line self.selection self.before (record { message = c.args.number; time = time; top = c.top.result })) c.time_in.ensures)
