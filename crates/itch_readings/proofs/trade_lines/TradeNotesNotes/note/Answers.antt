use Rattle.std.proofs.Common.{◌∙◌, ℕ, ap, sym, append-nil}
use Rattle.itch_layouts.specs.Shapes.{shape_of}
use Rattle.itch_readings.specs.OwnMessages.{own_message}
use Rattle.itch_readings.specs.Trades.{event_by}
use Rattle.itch_readings.proofs.MarkedTrades.{one_message_more}
use Rattle.itch_readings.proofs.trade_lines.TradeNotesNotes.note.Goals as goal

pub returns-in_ok-push : goal.returns-in_ok-push
returns-in_ok-push g c = λ first before are.
    let message = own_message c.args.number c.args.payload.now c.args.named c.args.outcome c.args.stock.now in
    (c.in_ok-push.ensures {u = tt}).items
    ∙ one_message_more c.args.self.now.events.items before message _ are
    (sym c.in-Some.is ∙ c.event_in.ensures ∙ ap (λ (l : ℕ). event_by c.args.number l c.args.named c.args.outcome (shape_of c.args.payload.now)) c.locate.ensures)

pub returns-in_default : goal.returns-in_default
returns-in_default g c = λ first before are.
    let message = own_message c.args.number c.args.payload.now c.args.named c.args.outcome c.args.stock.now in
    sym (append-nil c.args.self.now.events.items)
    ∙ one_message_more c.args.self.now.events.items before message _ are
    (sym c.in_default.is ∙ c.event_in.ensures ∙ ap (λ (l : ℕ). event_by c.args.number l c.args.named c.args.outcome (shape_of c.args.payload.now)) c.locate.ensures)
