use Rattle.std.proofs.Common.{subst}
use Rattle.binaryfile.specs.Entries.{Splits}
use Rattle.binaryfile.proofs.Splitting.{contents_splits}
use Rattle.binaryfile.proofs.PayloadBytes.{payloads_are}
use Rattle.itch_engine.proofs.engines.replay.report_of_file.Goals as goal

pub returns-clause-report : goal.returns-clause-report
returns-clause-report g c =
    let bytes = c.day.inside.bytes.items in
    let are = c.day.invariant.are in
    let day = c.in_ok-day.ensures {u = tt} in
    let contents = c.in_ok-day.day in
    let made = c.in_ok-made.ensures {u = tt} in
    let report = c.in_ok-report_of.ensures {u = tt} in
    record {
      contents = contents;
      split = day.split;
      few = day.within;
      report = report.text contents (payloads_are bytes contents are (subst (Splits bytes) c.day.view_is (contents_splits bytes are))) made;
      counted = report.refused contents made;
    }
