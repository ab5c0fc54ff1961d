use Rattle.std.proofs.Common.{List, ap, sym, ◌∙◌}
use Rattle.std.specs.List.{list_any, slice_range}
use Rattle.itch_table.specs.declared.trades.TradeRow.{TradeRow}
use Rattle.stock_machine.specs.StockTrades.{is_unbroken_trade}
use Rattle.stock_machine.proofs.Ranges.{any_between}
use Rattle.stock_machine.proofs.KeptTrades.{others_unbroken}
use Rattle.stock_machine.proofs.trades.Trades.has_unbroken.Goals as goal

pub returns : goal.returns
returns g c =
    let m = c.args.match_no in
    let rows = c.deref.result.now in
    let indices = c.indices_of-start in
    let found = λ (ts : List TradeRow). list_any (is_unbroken_trade m) ts in
    c.any_unbroken.ensures
    ∙ ap (λ (ts : List TradeRow). found (slice_range ts indices.result.0 indices.result.1)) (c.deref-2.ensures.value ∙ sym c.deref.ensures.value)
    ∙ any_between (is_unbroken_trade m) rows indices.result.0 indices.result.1 indices.ensures.order (others_unbroken m _ indices.ensures.before) (others_unbroken m _ indices.ensures.after)
    ∙ ap found (c.deref.ensures.value ∙ c.self.view_is)
