use Rattle.itch_readings.proofs.KeptHistory.{order_printed, payloads_there}
use Rattle.itch_readings.proofs.order_engine.order_of_file.Goals as goal

pub life_of-requires : goal.life_of-requires
life_of-requires g c =
    let gave = (c.in_ok-read_segments.ensures {u = tt}).took in
    let first = c.in_ok-noted.noted in
    let found = rw c.in-Some.is at (c.into_parts.ensures first.notes gave.contents.payloads first.search.name gave.holds) in
    payloads_there _ _ _ _ found.2.noted

pub returns-clause-text : goal.returns-clause-text
returns-clause-text g c =
    let gave = (c.in_ok-read_segments.ensures {u = tt}).took in
    let first = c.in_ok-noted.noted in
    let found = rw c.in-Some.is at (c.into_parts.ensures first.notes gave.contents.payloads first.search.name gave.holds) in
    record {
      contents = gave.contents;
      whole = gave.whole;
      few = gave.few;
      holds = order_printed c.own_rows_suffice.ensures.orders c.own_rows_suffice.ensures.spent gave.contents.payloads c.args.name first.search.name found.0 c.in-Some.stock _ _ _ c.args.reference _
          (c.in_ok-noted.ensures {u = tt}).name found.1 found.2.world found.2.noted (c.in_ok-text.ensures {u = tt});
    }
