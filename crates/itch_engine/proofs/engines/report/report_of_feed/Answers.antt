use Rattle.binaryfile.proofs.PayloadBytes.{payloads_are}
use Rattle.itch_engine.proofs.engines.report.report_of_feed.Goals as goal

pub returns-clause-report : goal.returns-clause-report
returns-clause-report g c =
    let file = (c.in_ok-file.ensures {u = tt}).replayed in
    let report = c.in_ok-report_of.ensures {u = tt} in
    let whole = file.whole in
    record {
      input = whole.input;
      gave = whole.gave;
      within = whole.within;
      makes = record {
        contents = file.contents;
        split = whole.split;
        few = file.few;
        report = report.text file.contents (payloads_are whole.input file.contents whole.are whole.split) file.makes;
        counted = report.refused file.contents file.makes;
      };
    }
