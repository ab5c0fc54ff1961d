use Rattle.std.proofs.Common.{◌≡◌, ◌∙◌, ◌++◌, ℕ, List, ap, length, arith}
use Rattle.std.specs.List.{flat_map}
use Rattle.std.proofs.lemmas.List.{take_all, with_items_is}
use Rattle.itch_readings.specs.TradeLines.{event_line, field_names}
use Rattle.itch_readings.specs.Trades.{with_breaks}
use Rattle.itch_readings.specs.declared.trades.TradeEvent.{TradeEvent}
use Rattle.itch_readings.proofs.MarkedTrades.{lines_same}
use Rattle.itch_readings.proofs.trade_lines.TradeNotes.into_text.Goals as goal

pub returns : goal.returns
returns g c =
    let events = c.args.self.events in
    let long : length c.mark_broken.new.events ≡ events.len = omega (arith, c.mark_broken.auto.events, c.deref_mut.ensures.len) in
    c.loop-event.invariant
    ∙ ap (λ (l : List TradeEvent). field_names ++ flat_map event_line l)
    (take_all c.loop-event.event-index c.deref-event-items.result.now (omega arith)
    ∙ c.deref-event-items.ensures.value ∙ with_items_is events c.mark_broken.new.events long
    ∙ c.in_ok-mark_broken.ensures {u = tt} ∙ ap with_breaks c.deref_mut.ensures.value)
    ∙ ap (λ (l : List ℕ). field_names ++ l) (lines_same (with_breaks events.items))
