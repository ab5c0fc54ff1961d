-- Orders whose shares fit 32 bits, and the bound of their sums.
use Rattle.std.proofs.Common.{◌≡◌, ℕ, ◌*◌, ◌-◌, ◌<◌, ◌≤◌, ◌^◌, [], ◌∷◌, length, Option, Some, None, Bool, true, false, cond, refl, subst, ◌∙◌, arith}
use Rattle.std.specs.Prelude.{T}
use Rattle.std.specs.Ordering.{eq_by_cmp, nat_cmp}
use Rattle.std.specs.Cmp.{nat_cmp_total}
use Rattle.std.specs.Option.{IfSome}
use Rattle.std.specs.FinMap.{entries, entries_sorted, find, get, get-entries, get-insert, get-remove, insert, remove, len, len-entries}
use Rattle.std.specs.FinMap.Entries.{is_sorted, below_all}
use Rattle.std.proofs.lemmas.Bool.Decides.{nat_tests}
use Rattle.std.proofs.lemmas.Grind.{common_steps}
use Rattle.itch_table.specs.declared.order.OrderRow.{OrderRow}
use Rattle.itch_table.specs.declared.order.Side.{Side}
use Rattle.itch_table.specs.Levels.{shares_at}
use Rattle.itch_table.proofs.LevelSums.{share_at-le}
use Rattle.order_book.specs.Kept.{SharesFit}
use Rattle.order_book.specs.Orders.{Orders, orders_in}
use Rattle.order_book.proofs.RowViews.{Rows, under}
use Rattle.order_book.proofs.Sums.{total, total-cons}

pub fit_insert : (orders : Orders) (k : ℕ) (row : OrderRow) → SharesFit orders → row.shares < 2 ^ 32
    → SharesFit (insert orders k row)
fit_insert orders k row fit fits q = rw (get-insert nat_cmp_total orders k row q) (by_test (eq_by_cmp nat_cmp q k))
  where
    by_test : (b : Bool) → IfSome (cond b (Some row) (get orders q)) (λ row. row.shares < 2 ^ 32)
    by_test true = fits
    by_test false = fit q

pub fit_remove : (orders : Orders) (k : ℕ) → SharesFit orders
    → SharesFit (remove orders k)
fit_remove orders k fit q = rw (get-remove nat_cmp_total orders k q) (by_test (eq_by_cmp nat_cmp q k))
  where
    by_test : (b : Bool) → IfSome (cond b None (get orders q)) (λ row. row.shares < 2 ^ 32)
    by_test true = tt
    by_test false = fit q

-- ---- the sum at a price, which is bounded by the number of orders

above : (k : ℕ) (rows : Rows) (q : ℕ) (row : OrderRow) → below_all nat_cmp k rows ≡ true → find nat_cmp q rows ≡ Some row → k < q
above k [] q row below found = absurd (none_some found)
  where
    none_some : None ≡ Some row → ⊥
    none_some e = cc
above k (e ∷ rows) q row below found = grind (arith, common_steps, nat_tests, above k rows q row)

-- what is found among later rows is found among all
found_after : (e : ℕ × OrderRow) (rows : Rows) (q : ℕ) (row : OrderRow) → is_sorted nat_cmp (e ∷ rows) ≡ true
    → find nat_cmp q rows ≡ Some row → find nat_cmp q (e ∷ rows) ≡ Some row
found_after e rows q row sorted found = grind (arith, common_steps, nat_tests, above e.0 rows q row)

found_first : (e : ℕ × OrderRow) (rows : Rows) → find nat_cmp e.0 (e ∷ rows) ≡ Some e.1
found_first e rows = grind (arith, common_steps, nat_tests)

sorted_rest : (e : ℕ × OrderRow) (rows : Rows) → is_sorted nat_cmp (e ∷ rows) ≡ true → is_sorted nat_cmp rows ≡ true
sorted_rest e rows sorted = grind (arith, common_steps, nat_tests)

total-le : (side : Side) (price : ℕ) (rows : Rows) → is_sorted nat_cmp rows ≡ true
    → ((q : ℕ) (row : OrderRow) → find nat_cmp q rows ≡ Some row → row.shares < 2 ^ 32)
    → total side price rows ≤ length rows * (2 ^ 32 - 1)
total-le side price [] sorted fit = omega arith
total-le side price (e ∷ rows) sorted fit =
    let here : e.1.shares < 2 ^ 32 = fit e.0 e.1 (found_first e rows) in
    let rest = total-le side price rows (sorted_rest e rows sorted) (λ q row found. fit q row (found_after e rows q row sorted found)) in
    omega (arith, total-cons side price e rows, share_at-le side price (under e), rest)

holds : (b : Bool) → T b → b ≡ true
holds true t = refl
holds false t = absurd t

pub row_fits : (orders : Orders) (k : ℕ) (row : OrderRow) → SharesFit orders → get orders k ≡ Some row → row.shares < 2 ^ 32
row_fits orders k row fit there = subst (λ (o : Option OrderRow). IfSome o (λ row. row.shares < 2 ^ 32)) there (fit k)

pub shares_at-le : (side : Side) (price : ℕ) (orders : Orders) → SharesFit orders
    → shares_at (orders_in orders) side price ≤ len orders * (2 ^ 32 - 1)
shares_at-le side price orders fit =
    let all = total-le side price (entries orders) (holds _ (entries_sorted orders)) (λ q row found.
    row_fits orders q row fit (get-entries orders q ∙ found)) in
    omega (arith, all, len-entries orders)
