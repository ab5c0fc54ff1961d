use Rattle.std.proofs.Common.{◌≡◌, List, ap, sym, ◌∙◌, subst}
use Rattle.std.specs.Prelude.{IfOk}
use Rattle.itch_table.specs.declared.order.Order.{Order}
use Rattle.itch_table.specs.Levels.{levels}
use Rattle.itch_table.specs.World.{orders_of}
use Rattle.stock_machine.specs.StockRows.{StockRows}
use Rattle.stock_machine.proofs.OwnRows.{orders_own}
use Rattle.stock_machine.proofs.rows.Rows.levels.Goals as goal

pub returns : goal.returns
returns g c =
    let i = c.self.inside in
    let is = sym (orders_own i.locate i.book i.spent i.trades i.known) ∙ ap (λ (o : StockRows). orders_of o.world o.locate) c.self.view_is in
    subst (λ (orders : List Order). IfOk c.levels.result (λ list. list.items ≡ levels orders c.args.side)) is c.levels.ensures
