-- How many orders there are after one change.
use Rattle.std.proofs.Common.{◌≡◌, ℕ, ◌+◌, ◌-◌, ◌≤◌, ◌==◌, None, Some, Bool, true, false, ap, arith}
use Rattle.std.specs.Prelude.{if◌then◌else◌}
use Rattle.std.specs.Cmp.{nat_cmp_total}
use Rattle.std.specs.FinMap.{get, insert, len, len-insert, remove, nat_cmp-IsAntisymmetric}
use Rattle.std.proofs.lemmas.Grind.{common_steps}
use Rattle.itch_table.specs.declared.order.OrderRow.{OrderRow}
use Rattle.order_book.specs.Orders.{Orders, reduced_by}
use Rattle.order_book.proofs.Maps.{get_removed, put_back}

module _ (orders : Orders) (k : ℕ) where
  pub one_more : (row : OrderRow) → get orders k ≡ None → len (insert orders k row) ≡ len orders + 1
  one_more row none = grind (arith, common_steps, none, len-insert nat_cmp_total orders k row)

  module _ (row : OrderRow) (there : get orders k ≡ Some row) where
    pub one_fewer : len (remove orders k) + 1 ≡ len orders
    one_fewer =
        let again = ap len (put_back nat_cmp_total nat_cmp-IsAntisymmetric orders k row there) in
        let fresh = get_removed nat_cmp_total orders k in
        grind (arith, common_steps, again, fresh, len-insert nat_cmp_total (remove orders k) k row)

    pub as_many : (new : OrderRow) → len (insert orders k new) ≡ len orders
    as_many new = grind (arith, common_steps, there, len-insert nat_cmp_total orders k new)

    -- shares that come off an order leave at most as many
    pub no_more : (shares : ℕ) → len (reduced_by orders k row shares) ≤ len orders
    no_more shares = by_test (row.shares == shares)
      where
        left : OrderRow
        left = record row { shares = row.shares - shares }

        by_test : (b : Bool) → len (if b then remove orders k else insert orders k left) ≤ len orders
        by_test true = omega (arith, one_fewer)
        by_test false = omega (arith, as_many left)
