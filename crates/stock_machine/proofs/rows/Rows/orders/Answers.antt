use Rattle.std.proofs.Common.{◌≡◌, ◌<◌, ◌^◌, List, length, ap, sym, ◌∙◌, subst}
use Rattle.std.specs.Prelude.{IfOk}
use Rattle.itch_table.specs.declared.order.Order.{Order}
use Rattle.itch_table.specs.World.{orders_of}
use Rattle.stock_machine.specs.StockRows.{StockRows}
use Rattle.stock_machine.proofs.OwnRows.{orders_own}
use Rattle.stock_machine.proofs.rows.Rows.orders.Goals as goal

pub returns-clause-list : goal.returns-clause-list
returns-clause-list g c =
    let i = c.self.inside in
    let is = sym (orders_own i.locate i.book i.spent i.trades i.known) ∙ ap (λ (o : StockRows). orders_of o.world o.locate) c.self.view_is in
    subst (λ (orders : List Order). IfOk c.orders.result (λ list. list.items ≡ orders)) is c.orders.ensures.list

pub returns-clause-few : goal.returns-clause-few
returns-clause-few g c =
    let i = c.self.inside in
    let is = sym (orders_own i.locate i.book i.spent i.trades i.known) ∙ ap (λ (o : StockRows). orders_of o.world o.locate) c.self.view_is in
    subst (λ (orders : List Order). length orders < 2 ^ 32) is c.orders.ensures.few
