use Rattle.std.proofs.Common.{◌≡◌, ℕ, Option, Some, None, ◌∙◌, ap, sym}
use Rattle.std.specs.FinMap.{FinMap}
use Rattle.std.specs.Option.{unwrap_or}
use Rattle.itch_table.specs.declared.order.OrderRow.{OrderRow}
use Rattle.itch_table.specs.Held.{all_stocks}
use Rattle.itch_table.specs.World.{World, key, key_cmp, live}
use Rattle.itch_table.specs.Table.{with_new_order, with_spent, without_order, with_replaced, no_order}
use Rattle.itch_table.proofs.Keys.{key_total, key_exact}
use Rattle.itch_table.proofs.MapViews.{remove-insert, apart_by_get}
use Rattle.itch_table.proofs.rows.RowsStore.replace_order.Goals as goal

-- to place the new order and then to remove the original replaces it
replaced : (w placed left : World) (locate old new shares price : ℕ) (row : OrderRow) → placed ≡ with_new_order w locate new (record row { shares = shares; price = price }) → left ≡ without_order placed locate old
    → live w locate old ≡ Some row → live w locate new ≡ None → all_stocks left ≡ all_stocks (with_replaced w locate old new shares price)
replaced w placed left locate old new shares price row places removes here free =
    let apart = apart_by_get key_total key_exact w.orders (key locate old) (key locate new) row here free in
    ap all_stocks {y = with_replaced w locate old new shares price} (
    removes ∙ ap (λ (v : World). without_order v locate old) places
    ∙ ap (λ (orders : FinMap key_cmp OrderRow). record (with_spent w locate new) { orders = orders }) (remove-insert key_total key_exact w.orders (key locate old) (key locate new) (record row { shares = shares; price = price }) apart)
    ∙ ap (λ (o : Option OrderRow). with_new_order (without_order w locate old) locate new (record (unwrap_or o no_order) { shares = shares; price = price })) (sym here)
    )

pub returns-clause-ok : goal.returns-clause-ok
returns-clause-ok g c =
    replaced c.args.self.now _ _ c.args.locate c.args.old c.args.new c.args.shares c.args.price c.args.found.row ((c.in_ok-set_new_order.ensures {u = tt}).ok) c.unset_order.ensures c.requires.live c.requires.new
