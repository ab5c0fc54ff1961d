use Rattle.std.proofs.Common.{◌∙◌, ap}
use Rattle.itch_readings.proofs.MarkedTrades.{events_text}
use Rattle.itch_readings.proofs.trades_engine.trades_of_file.Goals as goal

pub returns-clause-text : goal.returns-clause-text
returns-clause-text g c =
    let gave = (c.in_ok-read_segments.ensures {u = tt}).took in
    record {
      contents = gave.contents;
      whole = gave.whole;
      few = gave.few;
      holds = c.in_ok-text.ensures {u = tt}
          ∙ ap events_text (c.into_notes.ensures c.in_ok-noted.noted.notes gave.contents.payloads gave.holds);
    }
