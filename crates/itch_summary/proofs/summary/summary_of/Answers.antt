use Rattle.std.proofs.Common.{◌++◌, ℕ, List, ap, subst, sym, ◌∙◌}
use Rattle.std.specs.List.{flat_map}
use Rattle.itch_table.specs.Shows.{locates_of_day}
use Rattle.stock_machine.specs.StockRows.{StockMachine}
use Rattle.day_replay.specs.declared.refusals.RefusedMessage.{RefusedMessage}
use Rattle.day_replay.specs.Summaries.{refused_of}
use Rattle.itch_summary.specs.Lines.{field_names}
use Rattle.itch_summary.specs.RefusedCounts.{AreCounts}
use Rattle.itch_summary.specs.Summaries.{line_of_stock, machine_line, summary_of_day}
use Rattle.itch_summary.proofs.SummaryLines.{lines_are}
use Rattle.itch_summary.proofs.summary.summary_of.Goals as goal

pub put_lines-requires : goal.put_lines-requires
put_lines-requires g c = rw c.deref-3.ensures.value (c.in_ok-counts.ensures {u = tt}).long

pub returns : goal.returns
unfolding summary_of_day
returns g c = λ contents made.
    let day = contents.payloads in
    let counts = c.in_ok-counts.counts.items in
    let names = c.put_field_names.new.text.items in
    let refused = c.deref.ensures.value ∙ made.summary.refused_are in
    let are = subst (λ (r : List RefusedMessage). AreCounts r counts) refused (c.in_ok-counts.ensures {u = tt}) in
    let stocks = c.deref-2.ensures.value ∙ made.summary.stocks_are in
    c.in_ok-put_lines.ensures {u = tt} (refused_of day) (subst (AreCounts (refused_of day)) (sym c.deref-3.ensures.value) are)
    ∙ ap (λ (machines : List StockMachine). names ++ flat_map (machine_line (refused_of day)) machines) stocks
    ∙ ap (λ (lines : List ℕ). names ++ lines) (lines_are day)
    ∙ ap (λ (text : List ℕ). text ++ flat_map (line_of_stock day) (locates_of_day day))
    (c.in_ok-put_field_names.ensures {u = tt} ∙ ap (λ (text : List ℕ). text ++ field_names) c.new-text.ensures.items)
