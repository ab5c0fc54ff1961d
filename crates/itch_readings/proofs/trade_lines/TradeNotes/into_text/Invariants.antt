use Rattle.std.proofs.Common.{◌≡◌, ◌++◌, take}
use Rattle.std.specs.List.{flat_map}
use Rattle.itch_readings.specs.TradeLines.{event_line, field_names}
use Rattle.itch_readings.proofs.trade_lines.TradeNotes.into_text.Given as goal

abbrev pub invariant-loop-event : goal.invariant-loop-event
invariant-loop-event g l = l.text.items ≡ field_names ++ flat_map event_line (take l.event-index l.event-items)
