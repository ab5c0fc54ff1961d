use Rattle.std.proofs.Common.{List, ap, sym, ◌∙◌}
use Rattle.itch_table.specs.declared.order.Order.{Order}
use Rattle.itch_table.specs.Levels.{shares_at}
use Rattle.itch_table.specs.World.{orders_of}
use Rattle.stock_machine.specs.StockRows.{StockRows}
use Rattle.stock_machine.proofs.OwnRows.{orders_own}
use Rattle.stock_machine.proofs.rows.Rows.level.Goals as goal

pub returns : goal.returns
returns g c =
    let i = c.self.inside in
    let is = sym (orders_own i.locate i.book i.spent i.trades i.known) ∙ ap (λ (o : StockRows). orders_of o.world o.locate) c.self.view_is in
    c.level.ensures ∙ ap (λ (orders : List Order). shares_at orders c.args.side c.args.price) is
