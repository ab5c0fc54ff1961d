use Rattle.std.proofs.Common.{◌∙◌, ap, subst}
use Rattle.itch_readings.specs.Naming.{NamesNone}
use Rattle.itch_readings.proofs.TopLinesMore.{tops_printed}
use Rattle.itch_readings.proofs.tops_engine.tops_of_file.Goals as goal

pub returns-in-Some-clause-text : goal.returns-in-Some-clause-text
returns-in-Some-clause-text g c =
    let gave = (c.in_ok-read_segments.ensures {u = tt}).took in
    let new = c.in_ok-noted.ensures {u = tt} in
    let first = c.in_ok-noted.noted in
    let found = rw c.in-Some.is at (c.into_parts.ensures first.notes gave.contents.payloads first.search.name gave.holds) in
    record {
      contents = gave.contents;
      whole = gave.whole;
      few = gave.few;
      holds = tops_printed c.own_rows_suffice.ensures.orders gave.contents.payloads c.args.name first.search.name c.args.selection first.notes.selection _ _ _ _
          new.name (ap (λ lines. lines.selection) new.notes ∙ (c.in_ok-lines.ensures {u = tt}).selection) c.into_text.ensures
          (found.0, _, found.1, found.2.noted);
    }

pub returns-clause-text : goal.returns-clause-text
returns-clause-text g c =
    let gave = (c.in_ok-read_segments.ensures {u = tt}).took in
    let first = c.in_ok-noted.noted in
    record {
      contents = gave.contents;
      whole = gave.whole;
      few = gave.few;
      holds = subst (NamesNone gave.contents.payloads) (c.in_ok-noted.ensures {u = tt}).name
          (rw c.in-None.is at (c.into_parts.ensures first.notes gave.contents.payloads first.search.name gave.holds));
    }
