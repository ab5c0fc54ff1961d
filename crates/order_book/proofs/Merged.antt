-- The orders of both parts, merged into one tree.
use Rattle.std.proofs.Common.{◌≡◌, ℕ, [], ◌∷◌, map, Option, None, Some, refl, ap, sym, ◌∙◌}
use Rattle.std.specs.Ordering.{eq_by_cmp, nat_cmp}
use Rattle.std.specs.Cmp.{eq_by_cmp_equiv, nat_cmp_total}
use Rattle.std.specs.List.{IsDistinct}
use Rattle.std.specs.Map.{keys_of, update_all}
use Rattle.std.specs.Option.{option_or}
use Rattle.std.specs.BTreeMap.{BTreeMap, InsertsAll}
use Rattle.std.specs.BTreeMap as tree
use Rattle.std.specs.FinMap.{empty, entries, entries_sorted, from_entries, get, get-empty, get-entries, same_map, nat_cmp-IsAntisymmetric}
use Rattle.std.proofs.lemmas.Map.Keys.{IsDistinct-from_sorted}
use Rattle.std.proofs.lemmas.Map.Made.{update_all_distinct}
use Rattle.itch_table.specs.declared.order.OrderRow.{OrderRow}
use Rattle.itch_table.specs.World.{order_under}
use Rattle.itch_table.proofs.MapViews.{find_lookup, get_view}
use Rattle.itch_table.proofs.SortedKeys.{sorted_keys}
use Rattle.order_book.specs.Orders.{Orders, orders_in}
use Rattle.order_book.specs.Parts.{entry_of, joined}
use Rattle.order_book.proofs.Joined.{get_joined}
use Rattle.order_book.proofs.RowViews.{Rows}

-- ---- the orders of both parts

same_entries : (rows : Rows) → map entry_of (map (λ (e : ℕ × OrderRow). order_under e.0 e.1) rows) ≡ rows
same_entries [] = refl
same_entries (e ∷ rows) = ap (λ (rest : Rows). e ∷ rest) (same_entries rows)

pub merged : (some : Orders) (rows all : BTreeMap ℕ OrderRow) → InsertsAll nat_cmp rows (map entry_of (orders_in some)) all
    → from_entries all.entries ≡ joined some (from_entries rows.entries)
merged some rows all made = same_map nat_cmp_total nat_cmp-IsAntisymmetric _ _ (λ q.
    get_view nat_cmp_total all.entries q ∙ made.0 q
    ∙ ap (λ (es : Rows). update_all (eq_by_cmp nat_cmp) (tree.get nat_cmp rows) es q) (same_entries (entries some))
    ∙ update_all_distinct (eq_by_cmp_equiv nat_cmp_total) (eq_by_cmp nat_cmp) (λ x y. refl) (tree.get nat_cmp rows) (entries some) q distinct
    ∙ ap (λ o. option_or o (tree.get nat_cmp rows q)) (sym (get-entries some q ∙ find_lookup nat_cmp (entries some) q))
    ∙ ap (option_or (get some q)) (sym (get_view nat_cmp_total rows.entries q))
    ∙ sym (get_joined some (from_entries rows.entries) q))
  where
    distinct : IsDistinct (eq_by_cmp nat_cmp) (keys_of (entries some))
    distinct = IsDistinct-from_sorted nat_cmp (keys_of (entries some)) (sorted_keys (entries some) (entries_sorted some))

-- with no others, the orders are those of the first part
pub joined_alone : (some : Orders) → joined some empty ≡ some
joined_alone some = same_map nat_cmp_total nat_cmp-IsAntisymmetric _ _ (λ q.
    get_joined some empty q ∙ ap (option_or (get some q)) (get-empty {X = OrderRow} nat_cmp q) ∙ or_none (get some q))
  where
    or_none : (o : Option OrderRow) → option_or o None ≡ o
    or_none None = refl
    or_none (Some row) = refl
