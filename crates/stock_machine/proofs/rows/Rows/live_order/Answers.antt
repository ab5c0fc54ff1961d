use Rattle.std.proofs.Common.{ap, sym, ◌∙◌}
use Rattle.itch_table.specs.World.{order}
use Rattle.stock_machine.specs.StockRows.{StockRows}
use Rattle.stock_machine.proofs.OwnRows.{order_own}
use Rattle.stock_machine.proofs.rows.Rows.live_order.Goals as goal

pub returns : goal.returns
returns g c =
    let i = c.self.inside in
    c.order.ensures ∙ sym (order_own i.locate i.book i.spent i.trades i.known c.args.reference)
    ∙ ap (λ (o : StockRows). order o.world o.locate c.args.reference) c.self.view_is
