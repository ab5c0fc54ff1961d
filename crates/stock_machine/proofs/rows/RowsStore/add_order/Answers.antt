use Rattle.std.proofs.Common.{◌≡◌, Option, ap, sym, ◌∙◌, arith}
use Rattle.std.specs.Option.{option_map}
use Rattle.std.specs.FinMap as maps
use Rattle.itch_table.specs.declared.order.Order.{Order}
use Rattle.itch_table.specs.declared.order.OrderRow.{OrderRow}
use Rattle.itch_table.specs.World.{order_under}
use Rattle.order_book.specs.Orders.{added, order_in}
use Rattle.stock_machine.specs.StockRows.{StockRows}
use Rattle.stock_machine.proofs.Keyed.{live_keyed, len_keyed}
use Rattle.stock_machine.proofs.LiveSpent.{added_spent, taken_back_spent}
use Rattle.stock_machine.proofs.Owned.{held_insert, held_taken_back}
use Rattle.stock_machine.proofs.OwnRows.{spent_own}
use Rattle.stock_machine.proofs.rows.RowsStore.add_order.Goals as goal

pub add-requires-clause-new : goal.add-requires-clause-new
add-requires-clause-new g c =
    let here : c.args._locate ≡ c.args.self.now.locate = c.requires.here in
    let i = c.self.inside in
    ap (λ (order : Order). order_in i.book order.reference) c.under.ensures
    ∙ ap (λ (o : Option OrderRow). option_map (order_under c.args.reference) o) (sym (live_keyed i.locate c.args.reference i.book) ∙ (rw (here, ← c.self.view_is) at c.requires.new))

pub add-requires-clause-few : goal.add-requires-clause-few
add-requires-clause-few g c = omega (arith, len_keyed c.self.inside.locate c.self.inside.book, ap (λ (o : StockRows). maps.len o.world.orders) c.self.view_is, c.requires.room.orders)

pub returns-in-Ok-clause-ok : goal.returns-in-Ok-clause-ok
returns-in-Ok-clause-ok g c =
    let here : c.args._locate ≡ c.args.self.now.locate = c.requires.here in
    let i = c.self.inside in
    rw (here, ← c.self.view_is) (
    held_insert i.locate i.book i.spent i.trades i.known c.args.reference c.args.row _ _
    (c.in-Ok.ensures.ok ∙ ap (λ (order : Order). added i.book order) c.under.ensures) c.in_ok-insert.ensures.ok
    )

pub returns-in-Err-clause-err : goal.returns-in-Err-clause-err
returns-in-Err-clause-err g c =
    let here : c.args._locate ≡ c.args.self.now.locate = c.requires.here in
    let i = c.self.inside in
    let unspent = sym (spent_own i.locate i.book i.spent i.trades i.known c.args.reference) ∙ (rw (here, ← c.self.view_is) at c.requires.unspent) in
    rw (← c.self.view_is) (
    held_taken_back i.locate i.book i.spent i.trades i.known c.args.reference _ _ _ unspent c.in-Err.ensures.err c.in_ok-insert.ensures.ok c.remove.ensures
    )

pub invariant_of-self-in-Ok : goal.invariant_of-self-in-Ok
invariant_of-self-in-Ok g c =
    let i = c.self.inside in
    added_spent i.book i.spent c.self.invariant c.args.reference c.args.row _ _
    (c.in-Ok.ensures.ok ∙ ap (λ (order : Order). added i.book order) c.under.ensures) c.in_ok-insert.ensures.ok

pub invariant_of-self-in-Err : goal.invariant_of-self-in-Err
invariant_of-self-in-Err g c =
    let here : c.args._locate ≡ c.args.self.now.locate = c.requires.here in
    let i = c.self.inside in
    let unspent = sym (spent_own i.locate i.book i.spent i.trades i.known c.args.reference) ∙ (rw (here, ← c.self.view_is) at c.requires.unspent) in
    taken_back_spent i.book i.spent c.self.invariant c.args.reference _ _ _ unspent c.in-Err.ensures.err c.in_ok-insert.ensures.ok c.remove.ensures
