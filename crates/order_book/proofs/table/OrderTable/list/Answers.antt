use Rattle.std.proofs.Common.{rules, ◌≡◌, List, sym, ap, subst, ◌∙◌}
use Rattle.std.specs.Result.{IfOk}
use Rattle.std.specs.FinMap.{from_entries}
use Rattle.std.proofs.lemmas.List.{nil_from_length}
use Rattle.std.proofs.lemmas.Iterator.{YieldsList-from_map, YieldsList-from_slice}
use Rattle.std.proofs.lemmas.Iterator.Adapters.{items_from_extend}
use Rattle.std.proofs.lemmas.Iterator.Consumers.{YieldsList-at}
use Rattle.itch_table.specs.declared.order.Order.{Order}
use Rattle.order_book.specs.Orders.{orders_in}
use Rattle.order_book.specs.Parts.{entry_of, joined}
use Rattle.order_book.proofs.Merged.{joined_alone, merged}
use Rattle.order_book.proofs.RowViews.{Rows, list_rows}
use Rattle.order_book.proofs.table.OrderTable.list.Goals as goal

pub returns : goal.returns
returns g c =
    let made = items_from_extend c.extend.result c.extend.ensures.ran (
    YieldsList-from_map _ entry_of (YieldsList-at c.map.ensures.source (YieldsList-from_slice c.in_ok-rising.rising.items (cc))) c.map.ensures.closure (λ x r q k. search rules)
    ) in
    let added = rw (c.in_ok-extend.was, c.in_ok-rising.ensures) at made in
    let rows = c.extend.new.self.entries in
    let all = merged c.self.inside.rising c.in_ok-rows.rows c.extend.new.self added ∙ ap (λ (es : Rows). joined c.self.inside.rising (from_entries es)) c.in_ok-rows.ensures ∙ c.self.view_is in
    subst (λ (items : List Order). IfOk c.as_orders.result (λ list. list.items ≡ items)) (sym (list_rows rows c.args.self.now all c.as_orders.ensures.ordered)) c.as_orders.ensures.list

-- where no order is in the tree
pub returns-then-is_empty : goal.returns-then-is_empty
returns-then-is_empty g c =
    let none = nil_from_length c.self.inside.others.entries (c.is_empty.ensures.0 c.if-is_empty.true) in
    let alone = ap (λ (es : Rows). joined c.self.inside.rising (from_entries es)) none ∙ joined_alone c.self.inside.rising in
    c.in_ok-rising.ensures ∙ ap orders_in (sym alone ∙ c.self.view_is)
