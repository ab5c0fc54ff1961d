use Rattle.std.proofs.Common.{◌∙◌, Err, ap, refl, subst, sym}
use Rattle.std.proofs.lemmas.Result.{err_from_is_err_and}
use Rattle.day_printing.proofs.Results.{refused, without_memory, worked}
use Rattle.itch_readings.specs.declared.fault.StockFault.{StockFault}
use Rattle.itch_readings.specs.declared.naming.StockName.{StockName}
use Rattle.itch_trace.specs.Made.{MadeLines}
use Rattle.itch_trace.specs.declared.extent.Extent.{Extent}
use Rattle.itch_trace.specs.Printers.{TracesStock, stock_trace_printer}
use Rattle.itch_trace.proofs.engines.stock_trace_run.Goals as goal

pub returns-then-failed : goal.returns-then-failed
returns-then-failed g c =
    let feed = c.args.feed.now in
    let sink = c.args.sink.now in
    subst (λ (fault : StockFault). TracesStock c.args.extent c.args.name c.args.segment g.R.Read.remaining g.W.Write.contents feed feed sink sink (Err fault)) (sym c.from.ensures)
    (refused (stock_trace_printer c.args.extent c.args.name) _ _ c.args.segment g.R.Read.remaining g.W.Write.contents feed feed sink sink refl refl (sym (c.if-failed.ensures {u = tt})))

pub returns-in_err-trace : goal.returns-in_err-trace
returns-in_err-trace g c =
    let feed = c.args.feed.now in
    let sink = c.args.sink.now in
    let same = err_from_is_err_and c.from_residual.result c.from_residual.ensures.1 in
    subst (TracesStock c.args.extent c.args.name c.args.segment g.R.Read.remaining g.W.Write.contents feed feed sink sink) (sym (same.1 ∙ ap Err same.2))
    (without_memory (stock_trace_printer c.args.extent c.args.name) _ _ c.args.segment g.R.Read.remaining g.W.Write.contents feed sink (worked feed.failed (c.if-failed.ensures {u = tt})))

pub returns : goal.returns
returns g c =
    let made = c.in_ok-trace.ensures {u = tt} in
    let result = c.print_stock.result in
    subst (λ (extent : Extent). TracesStock extent c.args.name c.args.segment g.R.Read.remaining g.W.Write.contents c.args.feed.now c.print_stock.new.feed c.args.sink.now c.print_stock.new.sink result) (ap (λ (m : MadeLines). m.extent) made.made)
    (subst (λ (name : StockName). TracesStock c.in_ok-trace.trace.noted.notes.extent name c.args.segment g.R.Read.remaining g.W.Write.contents c.args.feed.now c.print_stock.new.feed c.args.sink.now c.print_stock.new.sink result) made.name c.print_stock.ensures)
