use Rattle.std.proofs.Common.{◌++◌, ℕ, List, [], ◌∷◌, ap, sym, ◌∙◌, take}
use Rattle.std.specs.List.{flat_map}
use Rattle.std.proofs.lemmas.List.{flat_map_more, take_more}
use Rattle.stock_machine.specs.StockRows.{StockMachine}
use Rattle.itch_engine.specs.Report.{machine_lines}
use Rattle.itch_engine.proofs.report.file.put_stocks.Goals as goal

pub loop-stock-preserved : goal.loop-stock-preserved
loop-stock-preserved g c =
    let stocks = c.args.stocks.now in
    let place : ℕ = c.loop-stock.stock-index in
    let stock : StockMachine = c.stock-item.result in
    (c.in_ok-put_stock_of.ensures {u = tt})
    ∙ ap (λ (text : List ℕ). text ++ machine_lines stock) c.loop-stock.invariant
    ∙ flat_map_more machine_lines c.args.text.now.items (take place stocks) stock
    ∙ ap (λ (some : List StockMachine). c.args.text.now.items ++ flat_map machine_lines some)
    (ap (λ (next : StockMachine). take place stocks ++ next ∷ []) c.stock-item.is ∙ sym (take_more stocks place stock c.loop-stock-test.true))
