use Rattle.std.proofs.Common.{leb-true, ap, arith}
use Rattle.std.proofs.lemmas.List.Sorted.{IsNonDecreasingBy-push}
use Rattle.itch_table.specs.declared.trades.TradeRow.{TradeRow}
use Rattle.stock_machine.proofs.trades.rises_with.Goals as goal

pub returns-then-rising : goal.returns-then-rising
returns-then-rising c le =
    let last = c.in-Some.last.now in
    let reaches = leb-true last.match_no c.args.trade.now.match_no le in
    IsNonDecreasingBy-push (λ (t : TradeRow). t.match_no) c.args.rows.now c.args.trade.now (c.requires c.if-rising.true)
    (λ d some. omega (arith, reaches, ap (λ (t : TradeRow). t.match_no) ((c.in-Some.ensures {u = tt}).item.3.1 d)))
