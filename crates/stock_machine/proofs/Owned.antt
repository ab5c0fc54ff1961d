-- What each change of a part does to a stock's rows of the world.
use Rattle.std.proofs.Common.{◌≡◌, ℕ, ◌-◌, ◌==◌, List, [], ◌∷◌, ◌++◌, map, Option, Some, cond, Bool, true, false, refl, ap, sym, ◌∙◌}
use Rattle.std.specs.Option.{unwrap_or}
use Rattle.std.specs.Ordering.{nat_cmp}
use Rattle.std.specs.Cmp.{nat_cmp_total}
use Rattle.std.specs.FinMap.{FinMap, contains_key, insert, remove, nat_cmp-IsAntisymmetric}
use Rattle.itch_table.specs.KeySets.{KeySet, with_key}
use Rattle.itch_table.specs.World.{World, key, key_cmp}
use Rattle.itch_table.specs.Held.{Held, one_stock, on_world}
use Rattle.itch_table.specs.Table.{less_shares, order_row, with_new_order, without_order, with_replaced, with_stock, with_trade, no_order}
use Rattle.itch_table.specs.Trades.{broken_at}
use Rattle.itch_table.specs.declared.order.OrderRow.{OrderRow}
use Rattle.itch_table.specs.declared.status.StockRow.{StockRow}
use Rattle.itch_table.specs.declared.trades.TradeRow.{TradeRow}
use Rattle.itch_table.proofs.SetViews.{taken_back}
use Rattle.order_book.specs.Orders.{Orders, reduced_by, replaced, row_in}
use Rattle.stock_machine.specs.StockRows.{stock_rows, held_by_one, keyed, trades_at}
use Rattle.stock_machine.specs.StockTrades.{broken_trade}
use Rattle.stock_machine.proofs.Keyed.{live_keyed, keyed_insert, keyed_remove}
use Rattle.stock_machine.proofs.OwnRows.{stock_set}
use Rattle.stock_machine.proofs.TradesAt.{push_at, broken_trades_at}

-- a world with other orders
abbrev with_orders : World → FinMap key_cmp OrderRow → World
with_orders w orders = record w { orders = orders }

less_by : (l k n : ℕ) (b : Orders) (row : OrderRow) (w : World) (all : Bool) → w.orders ≡ keyed l b
    → with_orders w (keyed l (cond all (remove b k) (insert b k (record row { shares = row.shares - n }))))
    ≡ cond all (with_orders w (remove w.orders (key l k))) (with_orders w (insert w.orders (key l k) (record row { shares = row.shares - n })))
less_by l k n b row w true e = ap (with_orders w) (keyed_remove l k b ∙ ap (λ (m : FinMap key_cmp OrderRow). remove m (key l k)) (sym e))
less_by l k n b row w false e = ap (with_orders w) (keyed_insert l k _ b ∙ ap (λ (m : FinMap key_cmp OrderRow). insert m (key l k) (record row { shares = row.shares - n })) (sym e))

module _ (l : ℕ) (b : Orders) (s : KeySet nat_cmp) (ts : List TradeRow) (known : Option StockRow) where
  row_own : (k : ℕ) → order_row (stock_rows l b s ts known).world l k ≡ row_in b k
  row_own k = ap (λ (o : Option OrderRow). unwrap_or o no_order) (live_keyed l k b)

  replaced_orders : (old new shares price : ℕ)
      → keyed l (replaced b old new shares price) ≡ insert (remove (keyed l b) (key l old)) (key l new) (record (order_row (stock_rows l b s ts known).world l old) { shares = shares; price = price })
  replaced_orders old new shares price =
      keyed_insert l new _ (remove b old)
      ∙ ap (λ (m : FinMap key_cmp OrderRow). insert m (key l new) (record (row_in b old) { shares = shares; price = price })) (keyed_remove l old b)
      ∙ ap (λ (row : OrderRow). insert (remove (keyed l b) (key l old)) (key l new) (record row { shares = shares; price = price })) (sym (row_own old))

  -- rows with another book
  held_book : (new : Orders) (orders : FinMap key_cmp OrderRow) → keyed l new ≡ orders → held_by_one (stock_rows l new s ts known) ≡ one_stock l (with_orders (stock_rows l b s ts known).world orders)
  held_book new orders e = ap (λ (m : FinMap key_cmp OrderRow). one_stock l (with_orders (stock_rows l b s ts known).world m)) e

  -- rows with another book and other spent references
  held_new : (new : Orders) (taken : KeySet nat_cmp) (orders : FinMap key_cmp OrderRow) (spent : KeySet key_cmp) → keyed l new ≡ orders → keyed l taken ≡ spent
      → held_by_one (stock_rows l new taken ts known) ≡ one_stock l (record (stock_rows l b s ts known).world { orders = orders; spent = spent })
  held_new new taken orders spent e f = λ i. one_stock l (record (stock_rows l b s ts known).world { orders = e i; spent = f i })

  pub held_insert : (k : ℕ) (v : OrderRow) (new : Orders) (taken : KeySet nat_cmp) → new ≡ insert b k v → taken ≡ with_key s k
      → held_by_one (stock_rows l new taken ts known) ≡ on_world (λ w. with_new_order w l k v) (held_by_one (stock_rows l b s ts known))
  held_insert k v new taken e f = held_new new taken _ _ (ap (keyed l) e ∙ keyed_insert l k v b) (ap (keyed l) f ∙ keyed_insert l k tt s)

  pub held_remove : (k : ℕ) (new : Orders) → new ≡ remove b k → held_by_one (stock_rows l new s ts known) ≡ on_world (λ w. without_order w l k) (held_by_one (stock_rows l b s ts known))
  held_remove k new e = held_book new _ (ap (keyed l) e ∙ keyed_remove l k b)

  pub held_reduce : (k n : ℕ) (row : OrderRow) (new : Orders) → row_in b k ≡ row → new ≡ reduced_by b k (row_in b k) n
      → held_by_one (stock_rows l new s ts known) ≡ on_world (λ w. less_shares w l k row n) (held_by_one (stock_rows l b s ts known))
  held_reduce k n row new r e =
      ap (λ (m : Orders). held_by_one (stock_rows l m s ts known)) (e ∙ ap (λ (row : OrderRow). reduced_by b k row n) r)
      ∙ ap (one_stock l) (less_by l k n b row (stock_rows l b s ts known).world (row.shares == n) refl)

  pub held_replace : (old next shares price : ℕ) (new : Orders) (taken : KeySet nat_cmp) → new ≡ replaced b old next shares price → taken ≡ with_key s next
      → held_by_one (stock_rows l new taken ts known) ≡ on_world (λ w. with_replaced w l old next shares price) (held_by_one (stock_rows l b s ts known))
  held_replace old next shares price new taken e f =
      held_new new taken _ _ (ap (keyed l) e ∙ replaced_orders old next shares price) (ap (keyed l) f ∙ keyed_insert l next tt s)

  -- rows with spent references to which one came that was taken out again
  pub held_taken_back : (k : ℕ) (new : Orders) (more back : KeySet nat_cmp) → contains_key s k ≡ false → new ≡ b → more ≡ with_key s k → back ≡ remove more k
      → held_by_one (stock_rows l new back ts known) ≡ held_by_one (stock_rows l b s ts known)
  held_taken_back k new more back out e f h =
      let same : back ≡ s = h ∙ ap (λ (m : KeySet nat_cmp). remove m k) f ∙ taken_back nat_cmp_total nat_cmp-IsAntisymmetric s k out in
      λ i. held_by_one (stock_rows l (e i) (same i) ts known)

  -- rows with other trades
  held_trades : (new : List TradeRow) (trades : List (ℕ × TradeRow)) → trades_at l new ≡ trades → held_by_one (stock_rows l b s new known) ≡ one_stock l (record (stock_rows l b s ts known).world { trades = trades })
  held_trades new trades e = ap (λ (rows : List (ℕ × TradeRow)). one_stock l (record (stock_rows l b s ts known).world { trades = rows })) e

  pub held_push : (t : TradeRow) (new : List TradeRow) → new ≡ ts ++ t ∷ [] → held_by_one (stock_rows l b s new known) ≡ on_world (λ w. with_trade w l t) (held_by_one (stock_rows l b s ts known))
  held_push t new e = held_trades new _ (ap (trades_at l) e ∙ push_at l ts t)

  pub held_broken : (m : ℕ) (new : List TradeRow) → new ≡ map (broken_trade m) ts
      → held_by_one (stock_rows l b s new known) ≡ on_world (λ w. record w { trades = map (broken_at l m) w.trades }) (held_by_one (stock_rows l b s ts known))
  held_broken m new e = held_trades new _ (ap (trades_at l) e ∙ sym (broken_trades_at l m ts))

  pub held_stock : (row : StockRow) → held_by_one (stock_rows l b s ts (Some row)) ≡ on_world (λ w. with_stock w l row) (held_by_one (stock_rows l b s ts known))
  held_stock row = ap (λ (m : FinMap nat_cmp StockRow). in_one m) (stock_set l known row)
    where
      in_one : FinMap nat_cmp StockRow → Held
      in_one m = one_stock l (record (stock_rows l b s ts known).world { stocks = m })
