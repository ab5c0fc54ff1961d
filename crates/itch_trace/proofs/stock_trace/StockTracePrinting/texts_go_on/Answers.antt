use Rattle.itch_trace.proofs.StockWritten.{stock_begins, stock_is_all}
use Rattle.itch_trace.proofs.stock_trace.StockTracePrinting.texts_go_on.Goals as goal

pub returns-clause-leads : goal.returns-clause-leads
returns-clause-leads g c = λ first now read next text given whole before split right.
    let noted = now.noted in
    stock_begins first.noted.notes.extent first.noted.search.name noted.search noted.messages noted.notes now.begun read text noted.stock before next whole right

pub returns-clause-enough : goal.returns-clause-enough
returns-clause-enough g c = λ first now read next text given whole before split suffices right.
    let noted = now.noted in
    stock_is_all first.noted.notes.extent first.noted.search.name noted.search noted.messages noted.notes now.begun read text noted.stock before suffices next whole right
