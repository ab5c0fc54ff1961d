-- That each live order's reference is spent, after each change of a stock's rows.
use Rattle.std.proofs.Common.{◌≡◌, ℕ, ◌-◌, ◌==◌, ◌&&◌, not, List, Option, Some, None, cond, Bool, true, false, refl, ap, ◌∙◌}
use Rattle.std.specs.Option.{is_none, IsSome}
use Rattle.std.specs.Ordering.{nat_cmp}
use Rattle.std.specs.Cmp.{nat_cmp_total}
use Rattle.std.specs.FinMap.{contains_key, empty, get, insert, remove, nat_cmp-IsAntisymmetric}
use Rattle.itch_table.specs.KeySets.{KeySet, with_key}
use Rattle.itch_table.specs.World.{is_fresh}
use Rattle.itch_table.specs.declared.order.OrderRow.{OrderRow}
use Rattle.itch_table.specs.declared.status.StockRow.{StockRow}
use Rattle.itch_table.specs.declared.trades.TradeRow.{TradeRow}
use Rattle.itch_table.proofs.KeysIn.{keys_insert, keys_of_none, keys_remove, keys_update}
use Rattle.itch_table.proofs.SetViews.{taken_back}
use Rattle.order_book.specs.Orders.{Orders, reduced_by, replaced}
use Rattle.stock_machine.specs.StockRows.{LiveAreSpent, stock_rows}
use Rattle.stock_machine.proofs.Keyed.{live_keyed}
use Rattle.stock_machine.proofs.OwnRows.{spent_own}

pub spent_of_none : (orders : Orders) (spent : KeySet nat_cmp) → orders ≡ empty → LiveAreSpent orders spent
spent_of_none orders spent e = rw e (keys_of_none OrderRow spent)

-- what isn't there where something holds that isn't so
none_by : {X : Type 0} (o : Option X) (spent : Bool) → (IsSome o → spent ≡ true) → (is_none o && not spent) ≡ not spent
none_by None spent h = refl
none_by (Some x) spent h = rw (h refl) refl

module _ (b : Orders) (s : KeySet nat_cmp) (all : LiveAreSpent b s) where
  -- a reference that isn't spent is fresh
  pub fresh_own : (l : ℕ) (ts : List TradeRow) (known : Option StockRow) (reference : ℕ) → is_fresh (stock_rows l b s ts known).world l reference ≡ not (contains_key s reference)
  fresh_own l ts known reference =
      (λ i. is_none (live_keyed l reference b i) && not (spent_own l b s ts known reference i))
      ∙ none_by (get b reference) (contains_key s reference) (all reference)

  pub added_spent : (k : ℕ) (v : OrderRow) (new : Orders) (taken : KeySet nat_cmp) → new ≡ insert b k v → taken ≡ with_key s k → LiveAreSpent new taken
  added_spent k v new taken e f = rw (e, f) (keys_insert nat_cmp_total b s all k v)

  pub removed_spent : (k : ℕ) (new : Orders) → new ≡ remove b k → LiveAreSpent new s
  removed_spent k new e = rw e (keys_remove nat_cmp_total b s all k)

  pub reduced_spent : (k n : ℕ) (row : OrderRow) (new : Orders) → IsSome (get b k) → new ≡ reduced_by b k row n → LiveAreSpent new s
  reduced_spent k n row new here e = rw e (by (row.shares == n))
    where
      less : OrderRow
      less = record row { shares = row.shares - n }

      by : (all_off : Bool) → LiveAreSpent (cond all_off (remove b k) (insert b k less)) s
      by true = keys_remove nat_cmp_total b s all k
      by false = keys_update nat_cmp_total b s all k less here

  pub replaced_spent : (old next shares price : ℕ) (new : Orders) (taken : KeySet nat_cmp) → new ≡ replaced b old next shares price → taken ≡ with_key s next → LiveAreSpent new taken
  replaced_spent old next shares price new taken e f =
      rw (e, f) (keys_insert nat_cmp_total (remove b old) s (keys_remove nat_cmp_total b s all old) next _)

  -- a reference came, and was taken out again
  pub taken_back_spent : (k : ℕ) (new : Orders) (more back : KeySet nat_cmp) → contains_key s k ≡ false → new ≡ b → more ≡ with_key s k → back ≡ remove more k → LiveAreSpent new back
  taken_back_spent k new more back out e f h =
      let same : back ≡ s = h ∙ ap (λ (m : KeySet nat_cmp). remove m k) f ∙ taken_back nat_cmp_total nat_cmp-IsAntisymmetric s k out in
      rw (e, same) all
