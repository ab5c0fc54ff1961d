use Rattle.std.proofs.Common.{◌∙◌, Err, ap, refl, subst, sym}
use Rattle.std.proofs.lemmas.Result.{err_from_is_err_and}
use Rattle.day_printing.specs.Printers.{Prints}
use Rattle.day_printing.proofs.Results.{refused, without_memory, worked}
use Rattle.itch_trace.specs.Made.{MadeLines}
use Rattle.itch_trace.specs.Printers.{IsTrace, trace_printer}
use Rattle.itch_trace.proofs.Runs.{trace_runs}
use Rattle.itch_trace.proofs.engines.trace_run.Goals as goal

pub returns-then-failed : goal.returns-then-failed
returns-then-failed g c =
    refused (trace_printer c.args.extent) _ _ c.args.segment g.R.Read.remaining g.W.Write.contents c.args.feed.now c.args.feed.now c.args.sink.now c.args.sink.now refl refl (sym (c.if-failed.ensures {u = tt}))

pub returns-in_err-trace : goal.returns-in_err-trace
returns-in_err-trace g c =
    let same = err_from_is_err_and c.from_residual.result c.from_residual.ensures.1 in
    subst (Prints (trace_printer c.args.extent) (IsTrace c.args.extent) (IsTrace c.args.extent) c.args.segment g.R.Read.remaining g.W.Write.contents c.args.feed.now c.args.feed.now c.args.sink.now c.args.sink.now)
    (sym (same.1 ∙ ap Err same.2))
    (without_memory (trace_printer c.args.extent) _ _ c.args.segment g.R.Read.remaining g.W.Write.contents c.args.feed.now c.args.sink.now (worked c.args.feed.now.failed (c.if-failed.ensures {u = tt})))

pub returns : goal.returns
returns g c =
    let trace = c.in_ok-trace.trace in
    let then = c.print_day.new.printing in
    trace_runs trace.made.extent c.args.extent (ap (λ (m : MadeLines). m.extent) ((c.in_ok-trace.ensures {u = tt}).made)) then.machines then.messages then.made then.begun c.args.segment g.R.Read.remaining g.W.Write.contents
    c.args.feed.now c.print_day.new.feed c.args.sink.now c.print_day.new.sink c.print_day.result c.print_day.ensures
