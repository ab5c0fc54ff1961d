use Rattle.std.proofs.Common.{ap, ◌∙◌, arith}
use Rattle.std.proofs.lemmas.Grind.{common_steps}
use Rattle.std.specs.List.{flat_map}
use Rattle.itch_table.specs.After.{outcomes}
use Rattle.itch_engine.specs.Report.{report_of_day}
use Rattle.itch_engine.proofs.StockLines.{lines_of_day}
use Rattle.itch_engine.proofs.Summaries.{line_of, lines_are}
use Rattle.itch_engine.proofs.report.file.report_text.Goals as goal

pub returns : goal.returns
unfolding report_of_day
returns g c = λ contents bytes made tally.
    let day = contents.payloads in
    let lines = lines_of_day day bytes in
    let stocks = c.deref-2.ensures.value ∙ made.summary.stocks_are in
    let event = made.summary.event_is in
    let last = (c.in_ok-put_stocks.ensures {u = tt}) in
    let middle = (c.in_ok-put_file_line.ensures {u = tt}) (outcomes day) tally in
    let start = (c.in_ok-put_refused_lines.ensures {u = tt}) in
    let refused = ap (flat_map line_of) (c.deref.ensures.value ∙ made.summary.refused_are) ∙ lines_are day in
    grind (arith, common_steps, last, middle, start, c.new-text.ensures.items, refused, stocks, event, lines, made.marked_is, made.tail_is)
