-- The shares at a price, summed over a book's orders, after one change of the orders.
use Rattle.std.proofs.Common.{◌≡◌, ℕ, ◌+◌, [], ◌∷◌, map, Some, None, cond, ap, sym, ◌∙◌, arith}
use Rattle.std.specs.declared.cmp.Ordering.{Ordering}
use Rattle.std.specs.declared.cmp.Ordering.TheVariants.{Less, Equal, Greater}
use Rattle.std.specs.Ordering.{is_eq, nat_cmp}
use Rattle.std.specs.Cmp.{nat_cmp_total}
use Rattle.std.specs.FinMap.{entries, find, get, get-entries, insert, remove, entries-insert, nat_cmp-IsAntisymmetric}
use Rattle.std.specs.FinMap.Entries.{put, by_order}
use Rattle.std.proofs.lemmas.List.Sums.{sum_by-cons}
use Rattle.itch_table.specs.declared.order.OrderRow.{OrderRow}
use Rattle.itch_table.specs.declared.order.Side.{Side}
use Rattle.itch_table.specs.Levels.{share_at, shares_at}
use Rattle.order_book.specs.Orders.{Orders, orders_in}
use Rattle.order_book.proofs.Maps.{get_removed, insert_removed, put_back}
use Rattle.order_book.proofs.RowViews.{Rows, under}

module _ (side : Side) (price : ℕ) where
  -- what an order adds to the level
  abbrev pub share : ℕ × OrderRow → ℕ
  share e = share_at side price (under e)

  abbrev pub total : Rows → ℕ
  total rows = shares_at (map under rows) side price

  pub total-cons : (e : ℕ × OrderRow) (rows : Rows) → total (e ∷ rows) ≡ share e + total rows
  total-cons e rows = sum_by-cons (share_at side price) (under e) (map under rows)

  total-put : (k : ℕ) (row : OrderRow) (rows : Rows) → find nat_cmp k rows ≡ None → total (put nat_cmp k row rows) ≡ share (k, row) + total rows
  total-put k row [] none = total-cons (k, row) []
  total-put k row (e ∷ rows) none =
      elim (nat_cmp k e.0) as (λ (o : Ordering). cond (is_eq o) (Some e.1) (find nat_cmp k rows) ≡ None
      → total (by_order o ((k, row) ∷ e ∷ rows) ((e.0, row) ∷ rows) (e ∷ put nat_cmp k row rows)) ≡ share (k, row) + total (e ∷ rows)) [
        | Less ↦ λ n. total-cons (k, row) (e ∷ rows)
        | Equal ↦ λ n. absurd (some_none n)
        | Greater ↦ λ n. omega (arith, total-put k row rows n, total-cons e rows, total-cons e (put nat_cmp k row rows))
      ] none
    where
      some_none : Some e.1 ≡ None → ⊥
      some_none e = cc

  module _ (orders : Orders) (k : ℕ) where
    pub shares-insert : (row : OrderRow) → get orders k ≡ None
        → shares_at (orders_in (insert orders k row)) side price ≡ share (k, row) + shares_at (orders_in orders) side price
    shares-insert row none =
        ap total (entries-insert nat_cmp_total orders k row) ∙ total-put k row (entries orders) (sym (get-entries orders k) ∙ none)

  module _ (orders : Orders) (k : ℕ) (row : OrderRow) (there : get orders k ≡ Some row) where
    pub shares-remove : share (k, row) + shares_at (orders_in (remove orders k)) side price ≡ shares_at (orders_in orders) side price
    shares-remove =
        sym (shares-insert (remove orders k) k row (get_removed nat_cmp_total orders k))
        ∙ ap (λ (o : Orders). shares_at (orders_in o) side price) (put_back nat_cmp_total nat_cmp-IsAntisymmetric orders k row there)

    pub shares-update : (new : OrderRow) → share (k, row) + shares_at (orders_in (insert orders k new)) side price
        ≡ share (k, new) + shares_at (orders_in orders) side price
    shares-update new =
        let again = ap (λ (o : Orders). shares_at (orders_in o) side price) (insert_removed nat_cmp_total nat_cmp-IsAntisymmetric orders k new) in
        omega (arith, again, shares-remove, shares-insert (remove orders k) k new (get_removed nat_cmp_total orders k))
