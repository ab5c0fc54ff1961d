use Rattle.std.proofs.Common.{List, [], ◌∷◌, ◌++◌, sym, ap, ◌∙◌, subst}
use Rattle.std.proofs.lemmas.List.{length_push}
use Rattle.itch_table.specs.RunningTotals.{plus_trade}
use Rattle.itch_table.specs.Trades.{totals_of}
use Rattle.itch_table.specs.declared.status.Totals.{Totals}
use Rattle.itch_table.specs.declared.trades.TradeRow.{TradeRow}
use Rattle.itch_table.proofs.TradeSums.{totals_push}
use Rattle.stock_machine.specs.StockTrades.{IsRising}
use Rattle.stock_machine.proofs.trades.Trades.push.Goals as goal

pub invariant_of-self-2 : goal.invariant_of-self-2
invariant_of-self-2 g c =
    let rows = c.self.inside.rows.items in
    let trade = c.args.trade in
    let kept = c.self.invariant in
    let with = c.with_trade-self-inside.ensures in
    let new = c.in_ok-push.ensures.items in
    record {
      sums = with.plus ∙ ap (λ (s : Totals). plus_trade s trade) kept.sums ∙ sym (ap totals_of new ∙ totals_push rows trade);
      within = rw (new, length_push) (with.within _ kept.within);
      rises = subst (λ (ts : List TradeRow). IsRising ts c.rises_with-rising.result) (ap (λ (ts : List TradeRow). ts ++ trade ∷ []) c.deref.ensures.value ∙ sym new) c.rises_with-rising.ensures;
    }
