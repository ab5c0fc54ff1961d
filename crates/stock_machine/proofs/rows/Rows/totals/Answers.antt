use Rattle.std.proofs.Common.{ap, sym, ◌∙◌}
use Rattle.itch_table.specs.Trades.{totals_of}
use Rattle.itch_table.specs.World.{totals}
use Rattle.stock_machine.specs.StockRows.{StockRows}
use Rattle.stock_machine.proofs.TradesAt.{under_at}
use Rattle.stock_machine.proofs.rows.Rows.totals.Goals as goal

pub returns : goal.returns
returns g c =
    let i = c.self.inside in
    c.totals.ensures ∙ ap totals_of (sym (under_at i.locate i.trades)) ∙ ap (λ (o : StockRows). totals o.world o.locate) c.self.view_is
