use Rattle.std.proofs.Common.{List, ap, get_or, sym, ◌∙◌}
use Rattle.itch_table.specs.declared.order.Order.{Order}
use Rattle.itch_table.specs.Levels.{levels, no_level}
use Rattle.itch_table.specs.World.{orders_of}
use Rattle.stock_machine.specs.StockRows.{StockRows}
use Rattle.stock_machine.proofs.OwnRows.{orders_own}
use Rattle.stock_machine.proofs.rows.Rows.nth_level.Goals as goal

pub returns : goal.returns
returns g c =
    let i = c.self.inside in
    let is = sym (orders_own i.locate i.book i.spent i.trades i.known) ∙ ap (λ (o : StockRows). orders_of o.world o.locate) c.self.view_is in
    c.nth_level.ensures ∙ ap (λ (orders : List Order). get_or (levels orders c.args.side) c.args.place no_level) is
