-- The rows of a tree map as a book's orders.
use Rattle.std.proofs.Common.{◌≡◌, ℕ, ◌^◌, ◌<◌, List, Option, Some, None, cond, length, map, refl, ap, sym, ◌∙◌, arith}
use Rattle.std.specs.Ordering.{eq_by_cmp, nat_cmp}
use Rattle.std.specs.Cmp.{eq_by_cmp_equiv, nat_cmp_total}
use Rattle.std.specs.Map.{keys_of, lookup, update_all}
use Rattle.std.specs.BTreeMap.{BTreeMap, get, is_at, IsFromIterResult, IsOrdered}
use Rattle.std.specs.List.{IsDistinct}
use Rattle.std.specs.List.Sorted.{IsStrictlySortedBy}
use Rattle.std.specs.FinMap as maps
use Rattle.std.specs.FinMap.{from_entries, nat_cmp-IsAntisymmetric}
use Rattle.std.proofs.lemmas.List.{length-map, map-id}
use Rattle.std.proofs.lemmas.Map.Keys.{IsDistinct-from_sorted}
use Rattle.std.proofs.lemmas.Map.Lookups.{btree_map_from_get, exact_unsigned}
use Rattle.std.proofs.lemmas.Map.Made.{update_all_none}
use Rattle.itch_table.specs.declared.order.Order.{Order}
use Rattle.itch_table.specs.declared.order.OrderRow.{OrderRow}
use Rattle.itch_table.specs.World.{order_under}
use Rattle.itch_table.proofs.MapViews.{get_view, ordered_entries, view_insert, view_remove}
use Rattle.order_book.specs.Orders.{Orders, orders_in}

abbrev pub Rows : Type 0
Rows = List (ℕ × OrderRow)

-- the row under a reference
abbrev pub row_at : Rows → ℕ → Option OrderRow
row_at rows reference = lookup (is_at (nat_cmp reference)) rows

-- a row with its reference
abbrev pub under : ℕ × OrderRow → Order
under e = order_under e.0 e.1

module _ (rows : Rows) (orders : Orders) (view : from_entries rows ≡ orders) where
  pub get_row : (reference : ℕ) → maps.get orders reference ≡ row_at rows reference
  get_row reference = ap (λ (o : Orders). maps.get o reference) (sym view) ∙ get_view nat_cmp_total rows reference

  pub with_row : (new : Rows) (reference : ℕ) (row : OrderRow)
      → ((q : ℕ) → row_at new q ≡ cond (is_at (nat_cmp reference) q) (Some row) (row_at rows q))
      → from_entries new ≡ maps.insert orders reference row
  with_row new reference row updates =
      view_insert nat_cmp_total nat_cmp-IsAntisymmetric rows new reference row updates
      ∙ ap (λ (o : Orders). maps.insert o reference row) view

  pub without_row : (new : Rows) (reference : ℕ)
      → ((q : ℕ) → row_at new q ≡ cond (is_at (nat_cmp reference) q) None (row_at rows q))
      → from_entries new ≡ maps.remove orders reference
  without_row new reference updates =
      view_remove nat_cmp_total nat_cmp-IsAntisymmetric rows new reference updates
      ∙ ap (λ (o : Orders). maps.remove o reference) view

  module _ (sorted : IsStrictlySortedBy nat_cmp (keys_of rows)) where
    entries_are : maps.entries orders ≡ rows
    entries_are =
        ap (λ (o : Orders). maps.entries o) (sym view)
        ∙ ordered_entries nat_cmp_total nat_cmp-IsAntisymmetric rows sorted

    pub count_rows : maps.len orders ≡ length rows
    count_rows = maps.len-entries orders ∙ ap length entries_are

    pub list_rows : orders_in orders ≡ map under rows
    list_rows = ap (map under) entries_are

    pub few_orders : length rows < 2 ^ 32 → length (orders_in orders) < 2 ^ 32
    few_orders few = omega (arith, ap length list_rows, length-map rows under)

-- all rows collected into a map are the same rows
pub collected : (m n : BTreeMap ℕ OrderRow) → IsOrdered nat_cmp m → IsFromIterResult nat_cmp (map (λ e. (e.0, e.1)) m.entries) n
    → n.entries ≡ m.entries
collected m n sorted made = sym (btree_map_from_get nat_cmp_total m n sorted made.1 same exact_unsigned)
  where
    distinct : IsDistinct (eq_by_cmp nat_cmp) (keys_of m.entries)
    distinct = IsDistinct-from_sorted nat_cmp (keys_of m.entries) sorted

    same : (q : ℕ) → get nat_cmp m q ≡ get nat_cmp n q
    same q = sym (
        made.0 q ∙ ap (λ (rows : Rows). update_all (eq_by_cmp nat_cmp) (λ _. None) rows q) (map-id m.entries)
        ∙ update_all_none (eq_by_cmp_equiv nat_cmp_total) (eq_by_cmp nat_cmp) (λ x y. refl) m.entries q distinct
        )
