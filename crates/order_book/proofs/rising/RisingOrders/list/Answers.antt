use Rattle.std.proofs.Common.{rules, ◌≡◌, List, sym, subst}
use Rattle.std.specs.Result.{IfOk}
use Rattle.std.proofs.lemmas.Iterator.{YieldsList-from_slice, YieldsList-from_map, items_from_collect}
use Rattle.std.proofs.lemmas.Iterator.Consumers.{YieldsList-at, YieldsList-from_filter}
use Rattle.itch_table.specs.declared.order.Order.{Order}
use Rattle.order_book.specs.Parts.{has_shares, order_at}
use Rattle.order_book.proofs.RisingLists.{listed}
use Rattle.order_book.proofs.rising.RisingOrders.list.Goals as goal

pub returns : goal.returns
returns g c =
    let first = c.self.inside.first in
    let rows = c.self.inside.rows.items in
    rw (← c.self.view_is) (
    subst (λ (os : List Order). IfOk c.collect.result (λ list. list.items ≡ os)) (sym (listed first rows c.self.invariant.1)) (
    items_from_collect _ c.collect.ensures.ran (
    YieldsList-from_map _ (order_at first) (YieldsList-at c.map.ensures.source (
    YieldsList-from_filter _ has_shares (YieldsList-from_slice rows (cc)) c.filter.ensures.closure (λ x b q k. search rules)))
    c.map.ensures.closure (λ x r q k. search rules)))
    )
