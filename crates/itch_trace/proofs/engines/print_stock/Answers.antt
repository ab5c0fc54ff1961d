use Rattle.std.proofs.Common.{◌∙◌, sym}
use Rattle.std.proofs.lemmas.Bool.{false≢true}
use Rattle.itch_trace.proofs.Runs.{stock_found, stock_missing}
use Rattle.itch_trace.proofs.engines.print_stock.Goals as goal

pub returns-then-has_begun : goal.returns-then-has_begun
returns-then-has_begun g c =
    let first = c.args.trace.now.noted in
    let then = c.print_day.new.printing.noted in
    stock_found first.notes.extent first.search.name then.search then.messages then.notes c.print_day.new.printing.begun c.args.segment g.R.Read.remaining g.W.Write.contents
    c.args.feed.now c.print_day.new.feed c.args.sink.now c.print_day.new.sink then.stock (c.has_begun.ensures.0 c.if-has_begun.true) c.print_day.result (c.in_ok-print_day.was {u = tt}) c.print_day.ensures

pub returns-else-has_begun : goal.returns-else-has_begun
returns-else-has_begun g c =
    let first = c.args.trace.now.noted in
    let then = c.print_day.new.printing.noted in
    stock_missing first.notes.extent first.search.name then.search then.messages then.notes c.print_day.new.printing.begun c.args.segment g.R.Read.remaining g.W.Write.contents
    c.args.feed.now c.print_day.new.feed c.args.sink.now c.print_day.new.sink then.stock (λ some. false≢true (sym c.if-has_begun.false ∙ c.has_begun.ensures.1 some)) c.print_day.result (c.in_ok-print_day.was {u = tt}) c.print_day.ensures
