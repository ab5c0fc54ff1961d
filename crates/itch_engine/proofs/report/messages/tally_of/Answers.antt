use Rattle.std.proofs.Common.{◌≡◌, ap, arith, length, ◌∙◌}
use Rattle.std.specs.List.{count_by}
use Rattle.std.proofs.lemmas.List.Sums.{count_by-le-length}
use Rattle.binaryfile.specs.Entries.{Contents}
use Rattle.itch_table.specs.After.{outcomes}
use Rattle.itch_table.proofs.Days.{length-outcomes_until}
use Rattle.day_replay.specs.Summaries.{is_refused}
use Rattle.file_replay.specs.Files.{IsFileSummary}
use Rattle.itch_engine.proofs.Summaries.{all_counted, refused_are}
use Rattle.itch_engine.proofs.report.messages.tally_of.Given as given
use Rattle.itch_engine.proofs.report.messages.tally_of.Goals as goal

module _ (g : given.Over) (c : goal.After-len-refused g) (contents : Contents) (made : IsFileSummary contents c.args.file.now) where
  messages : c.args.file.now.summary.messages ≡ length (outcomes contents.payloads)
  messages = omega (arith, made.count_is, length-outcomes_until contents.payloads (length contents.payloads))

  refused : length c.args.file.now.summary.refused.items ≡ count_by is_refused (outcomes contents.payloads)
  refused = ap length made.summary.refused_are ∙ refused_are contents.payloads

pub overflow_cast-refused : goal.overflow_cast-refused
overflow_cast-refused g c =
    let contents = c.requires.0 in
    let made = c.requires.1 in
    omega (arith, messages g c contents made, refused g c contents made, count_by-le-length is_refused (outcomes contents.payloads))

pub overflow_sub-result : goal.overflow_sub-result
overflow_sub-result g c =
    let contents = c.requires.0 in
    let made = c.requires.1 in
    omega (arith, messages g c contents made, made.passed_is, all_counted (outcomes contents.payloads))

pub overflow_sub-result-2 : goal.overflow_sub-result-2
overflow_sub-result-2 g c =
    let contents = c.requires.0 in
    let made = c.requires.1 in
    omega (arith, messages g c contents made, made.passed_is, refused g c contents made, all_counted (outcomes contents.payloads))

pub returns : goal.returns
returns g c = λ contents made. record {
  messages = messages g c contents made;
  applied = omega (arith, messages g c contents made, made.passed_is, refused g c contents made, all_counted (outcomes contents.payloads));
  passed = made.passed_is;
  refused = omega (arith, c.len-refused.ensures, refused g c contents made);
}
