use Rattle.itch_summary.proofs.engine.summary_of_file.Goals as goal

pub returns-clause-text : goal.returns-clause-text
returns-clause-text g c =
    let file = (c.in_ok-file.ensures {u = tt}).replayed in
    record {
      contents = file.contents;
      whole = file.whole;
      few = file.few;
      summary = c.in_ok-summary_of.ensures {u = tt} file.contents file.makes;
    }
