use Rattle.std.proofs.Common.{◌≡◌, ◌≤◌, ◌++◌, ◌∷◌, [], ℕ, List, ap, get_or, length, sym, ◌∙◌, arith, take}
use Rattle.std.specs.List.{flat_map}
use Rattle.std.proofs.lemmas.List.{flat_map_more, take_all, take_more}
use Rattle.stock_machine.specs.StockRows.{StockMachine}
use Rattle.day_replay.specs.Summaries.{count_of_stock}
use Rattle.itch_summary.specs.Lines.{summary_line}
use Rattle.itch_summary.specs.Summaries.{machine_line}
use Rattle.itch_summary.proofs.summary.put_lines.Goals as goal

pub loop-stock-preserved : goal.loop-stock-preserved
loop-stock-preserved g c = λ refused are.
    let stocks = c.args.stocks.now in
    let place : ℕ = c.loop-stock.stock-index in
    let stock : StockMachine = c.stock-item.result in
    let counted : get_or c.args.counts.now c.locate.result 0 ≡ count_of_stock refused stock.locate =
    are.each c.locate.result 0 (omega arith) ∙ ap (count_of_stock refused) c.locate.ensures in
    c.in_ok-put_line.ensures {u = tt}
    ∙ ap (λ (n : ℕ). c.loop-stock.text.items ++ summary_line stock n) counted
    ∙ ap (λ (text : List ℕ). text ++ machine_line refused stock) (c.loop-stock.invariant refused are)
    ∙ flat_map_more (machine_line refused) c.args.text.now.items (take place stocks) stock
    ∙ ap (λ (some : List StockMachine). c.args.text.now.items ++ flat_map (machine_line refused) some)
    (ap (λ (next : StockMachine). take place stocks ++ next ∷ []) c.stock-item.is ∙ sym (take_more stocks place stock c.loop-stock-test.true))

pub returns : goal.returns
returns g c = λ refused are.
    let stocks = c.args.stocks.now in
    let done : length stocks ≤ c.loop-stock.stock-index = omega (arith, c.loop-stock-test.false) in
    c.loop-stock.invariant refused are
    ∙ ap (λ (some : List StockMachine). c.args.text.now.items ++ flat_map (machine_line refused) some) (take_all c.loop-stock.stock-index stocks done)
