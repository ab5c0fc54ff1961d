use Rattle.std.proofs.Common.{◌∙◌, ap, subst}
use Rattle.itch_readings.specs.Naming.{NamesNone, NamesStock}
use Rattle.itch_readings.proofs.MarkedTrades.{events_text}
use Rattle.itch_readings.specs.declared.naming.StockName.{StockName}
use Rattle.itch_readings.proofs.trades_engine.stock_trades_of_file.Goals as goal

pub returns-clause-text : goal.returns-clause-text
returns-clause-text g c =
    let gave = (c.in_ok-read_segments.ensures {u = tt}).took in
    let first = c.in_ok-noted.noted in
    let day = gave.contents.payloads in
    let found = rw c.in-Some.is at (c.into_parts.ensures first.notes day first.search.name gave.holds) in
    record {
      contents = gave.contents;
      whole = gave.whole;
      few = gave.few;
      holds = record {
        message = found.0;
        locate = c.in-Some.field-0-0.locate;
        named = subst (λ (s : StockName). NamesStock day s found.0 c.in-Some.field-0-0.locate) (c.in_ok-noted.ensures {u = tt}).name found.1;
        printed = c.in_ok-text.ensures {u = tt} ∙ ap events_text found.2.noted;
      };
    }

pub returns-in_default-clause-text : goal.returns-in_default-clause-text
returns-in_default-clause-text g c =
    let gave = (c.in_ok-read_segments.ensures {u = tt}).took in
    let first = c.in_ok-noted.noted in
    record {
      contents = gave.contents;
      whole = gave.whole;
      few = gave.few;
      holds = subst (NamesNone gave.contents.payloads) (c.in_ok-noted.ensures {u = tt}).name
          (rw c.in_default.is at (c.into_parts.ensures first.notes gave.contents.payloads first.search.name gave.holds));
    }
