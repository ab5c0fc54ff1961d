-- The levels that are kept stay those of the orders, from change to change.
use Rattle.std.proofs.Common.{◌≡◌, ℕ, ◌+◌, ◌-◌, ◌<◌, ◌≤◌, ◌^◌, ◌==◌, [], Some, None, Bool, true, false, refl, subst, ap, sym, ◌∙◌, arith}
use Rattle.std.specs.Prelude.{if◌then◌else◌}
use Rattle.std.specs.Ordering.{nat_cmp}
use Rattle.std.specs.FinMap.{empty, entries, get, get-empty, insert, len, len-empty, len-entries, remove}
use Rattle.std.proofs.lemmas.Bool.Decides.{nat_tests}
use Rattle.std.proofs.lemmas.List.{nil_from_length}
use Rattle.itch_table.specs.Levels.{level_map, same_side, shares_at}
use Rattle.itch_table.specs.declared.order.OrderRow.{OrderRow}
use Rattle.itch_table.specs.declared.order.Side.{Side}
use Rattle.itch_table.specs.declared.order.Side.TheVariants.{Buy, Sell}
use Rattle.order_book.specs.Orders.{Orders, orders_in, reduced_by}
use Rattle.order_book.specs.Kept.{AreChanged, LevelsAreKept, BothSides, LevelMap, SameLevels, levels_on, lowered, raised, shares_on}
use Rattle.order_book.proofs.LevelChanges.{lowered_if, raised_if, shares_of_levels}
use Rattle.order_book.proofs.SharesFit.{fit_insert, fit_remove, row_fits, shares_at-le}
use Rattle.order_book.proofs.Sums.{shares-insert, shares-remove, shares-update}

module _ {orders : Orders} {old : BothSides} (kept : LevelsAreKept orders old) where
  pub kept_same : {new : BothSides} → SameLevels old new → LevelsAreKept orders new
  kept_same same = record { levels_are = λ side. same side ∙ kept.levels_are side; shares_fit = kept.shares_fit }

  -- the shares at a price are those of the orders
  pub shares_are : (side : Side) (price : ℕ) → shares_on (levels_on old side) price ≡ shares_at (orders_in orders) side price
  shares_are side price = ap (λ (m : LevelMap). shares_on m price) (kept.levels_are side) ∙ shares_of_levels (orders_in orders) side price

  -- a level has room for an order more
  pub has_room : (side : Side) (price shares : ℕ) → len orders < 2 ^ 32 → shares < 2 ^ 32 → shares_on (levels_on old side) price + shares < 2 ^ 64
  has_room side price shares few fits = omega (arith, shares_are side price, shares_at-le side price orders kept.shares_fit)

  changed_levels : {new : BothSides} (side : Side) (change : LevelMap → LevelMap) (s : Side) → AreChanged old new side change
      → levels_on new s ≡ (if same_side side s then change (level_map (orders_in orders) s) else level_map (orders_in orders) s)
  changed_levels side change s changed =
      changed s ∙ ap (λ (m : LevelMap). if same_side side s then change m else m) (kept.levels_are s)

  module _ (k : ℕ) (row : OrderRow) where
    pub kept_insert : {new : BothSides} → get orders k ≡ None → row.shares < 2 ^ 32
        → AreChanged old new row.side (λ levels. raised levels row.price row.shares) → LevelsAreKept (insert orders k row) new
    kept_insert none fits changed = record {
      levels_are = λ s.
          changed_levels row.side (λ levels. raised levels row.price row.shares) s changed
          ∙ sym (raised_if (same_side row.side s) (orders_in orders) (orders_in (insert orders k row)) s row.price row.shares
          (λ q. shares-insert s q orders k row none));
      shares_fit = fit_insert orders k row kept.shares_fit fits;
    }

    module _ (there : get orders k ≡ Some row) where
      pub kept_remove : {new : BothSides} → AreChanged old new row.side (λ levels. lowered levels row.price row.shares) → LevelsAreKept (remove orders k) new
      kept_remove changed = record {
        levels_are = λ s.
            changed_levels row.side (λ levels. lowered levels row.price row.shares) s changed
            ∙ sym (lowered_if (same_side row.side s) (orders_in orders) (orders_in (remove orders k)) s row.price row.shares
            (λ q. shares-remove s q orders k row there));
        shares_fit = fit_remove orders k kept.shares_fit;
      }

      -- an order's shares are among those of its level
      pub shares_among : row.shares ≤ shares_on (levels_on old row.side) row.price
      shares_among =
          let own : same_side row.side row.side ≡ true = own_side row.side in
          grind (arith, nat_tests, own, shares_are row.side row.price, shares-remove row.side row.price orders k row there)
        where
          own_side : (side : Side) → same_side side side ≡ true
          own_side Buy = refl
          own_side Sell = refl

      kept_reduce : {new : BothSides} (shares : ℕ) → shares ≤ row.shares → AreChanged old new row.side (λ levels. lowered levels row.price shares)
          → LevelsAreKept (insert orders k (record row { shares = row.shares - shares })) new
      kept_reduce shares enough changed =
          let left : OrderRow = record row { shares = row.shares - shares } in
          record {
            levels_are = λ s.
                changed_levels row.side (λ levels. lowered levels row.price shares) s changed
                ∙ sym (lowered_if (same_side row.side s) (orders_in orders) (orders_in (insert orders k left)) s row.price shares
                (λ q. less (same_side row.side s) (row.price == q) row.shares shares _ _ enough (shares-update s q orders k row there left)));
            shares_fit = fit_insert orders k left kept.shares_fit (omega (arith, row_fits orders k row kept.shares_fit there));
          }
        where
          less : (b c : Bool) (n m all have : ℕ) → m ≤ n
              → (if b then (if c then n else 0) else 0) + all ≡ (if b then (if c then n - m else 0) else 0) + have
              → (if b then (if c then m else 0) else 0) + all ≡ have
          less true true n m all have le e = omega (arith, e)
          less true false n m all have le e = omega (arith, e)
          less false c n m all have le e = omega (arith, e)

      -- shares came off the order, which is gone where none are left
      pub kept_reduced : {new : BothSides} (shares : ℕ) → shares ≤ row.shares → AreChanged old new row.side (λ levels. lowered levels row.price shares)
          → LevelsAreKept (reduced_by orders k row shares) new
      kept_reduced {new = new} shares enough changed = by_test (row.shares == shares) refl
        where
          by_test : (b : Bool) → (row.shares == shares) ≡ b
              → LevelsAreKept (if b then remove orders k else insert orders k (record row { shares = row.shares - shares })) new
          by_test true is =
              let whole : shares ≡ row.shares = grind (arith, nat_tests) in
              kept_remove (subst (λ n. AreChanged old new row.side (λ levels. lowered levels row.price n)) whole changed)
          by_test false is = kept_reduce shares enough changed

-- a book without orders has no levels
pub kept_empty : (both : BothSides) → ((side : Side) → levels_on both side ≡ empty) → LevelsAreKept empty both
kept_empty both none = record {
  levels_are = λ side. none side ∙ sym (no_levels side);
  shares_fit = λ q. rw (get-empty {X = OrderRow} nat_cmp q) tt;
}
  where
    no_entries : entries (empty {X = OrderRow} {R = nat_cmp}) ≡ []
    no_entries = nil_from_length _ (sym (len-entries (empty {X = OrderRow} {R = nat_cmp})) ∙ len-empty nat_cmp OrderRow)

    no_levels : (side : Side) → level_map (orders_in empty) side ≡ empty
    no_levels side = rw no_entries refl
