-- What a stock's rows of the world hold: its book's orders, and what is known of it.
use Rattle.std.proofs.Common.{◌≡◌, ℕ, List, [], ◌∷◌, map, Option, Some, None, refl, ap, ◌∙◌, arith}
use Rattle.std.specs.Prelude.{filter}
use Rattle.std.specs.Option.{option_map, is_some}
use Rattle.std.specs.Ordering.{nat_cmp}
use Rattle.std.specs.Cmp.{nat_cmp_total}
use Rattle.std.specs.FinMap.{contains_key, get, insert, empty, entries, get-insert, get-empty, same_map, nat_cmp-IsAntisymmetric}
use Rattle.std.proofs.lemmas.Grind.{common_steps}
use Rattle.std.proofs.lemmas.Bool.Decides.{nat_tests}
use Rattle.itch_table.specs.KeySets.{KeySet}
use Rattle.itch_table.specs.World.{key_cmp, is_spent, is_under, order, order_of, order_under, orders_of}
use Rattle.itch_table.specs.declared.order.OrderKey.{OrderKey}
use Rattle.itch_table.specs.declared.order.OrderRow.{OrderRow}
use Rattle.itch_table.specs.declared.status.StockRow.{StockRow}
use Rattle.itch_table.specs.declared.trades.TradeRow.{TradeRow}
use Rattle.itch_table.proofs.Keys.{key_total, key_exact}
use Rattle.itch_table.proofs.OneStock.{same_code}
use Rattle.order_book.specs.Orders.{Orders, order_in, orders_in}
use Rattle.stock_machine.specs.StockRows.{stock_rows, keyed, stocks_of}
use Rattle.stock_machine.proofs.Keyed.{at, entries_keyed, get_keyed, live_keyed}

pub stock_own : (l : ℕ) (known : Option StockRow) → get (stocks_of l known) l ≡ known
stock_own l None = get-empty nat_cmp l
stock_own l (Some row) = grind (arith, common_steps, nat_tests, get-insert nat_cmp_total (empty {X = StockRow} {R = nat_cmp}) l row l)

pub stock_set : (l : ℕ) (known : Option StockRow) (new : StockRow) → stocks_of l (Some new) ≡ insert (stocks_of l known) l new
stock_set l None new = refl
stock_set l (Some old) new = same_map nat_cmp_total nat_cmp-IsAntisymmetric _ _ (λ q.
    grind (arith, common_steps, get-insert nat_cmp_total (empty {X = StockRow} {R = nat_cmp}) l new q, get-insert nat_cmp_total (empty {X = StockRow} {R = nat_cmp}) l old q, get-insert nat_cmp_total (insert (empty {X = StockRow} {R = nat_cmp}) l old) l new q))

pub keyed_empty : {X : Type 0} (l : ℕ) → keyed {X = X} l empty ≡ empty
keyed_empty {X} l = same_map key_total key_exact _ _ (λ q. grind (arith, common_steps, get_keyed {X = X} q.locate l q.reference empty, get-empty {X = X} nat_cmp q.reference, get-empty {X = X} key_cmp q))

-- all rows of the one stock are under its locate code
listed_at : (l : ℕ) (rows : List (ℕ × OrderRow)) → map (λ e. order_of e.0 e.1) (filter (λ e. is_under l e.0) (at l rows)) ≡ map (λ e. order_under e.0 e.1) rows
listed_at l [] = refl
listed_at l (e ∷ rows) = rw (same_code l) (ap (λ orders. order_under e.0 e.1 ∷ orders) (listed_at l rows))

module _ (l : ℕ) (b : Orders) (s : KeySet nat_cmp) (ts : List TradeRow) (known : Option StockRow) where
  pub orders_own : orders_of (stock_rows l b s ts known).world l ≡ orders_in b
  orders_own = ap (λ (rows : List (OrderKey × OrderRow)). map (λ e. order_of e.0 e.1) (filter (λ e. is_under l e.0) rows)) (entries_keyed l b) ∙ listed_at l (entries b)

  pub spent_own : (reference : ℕ) → is_spent (stock_rows l b s ts known).world l reference ≡ contains_key s reference
  spent_own reference = ap is_some (live_keyed l reference s)

  pub order_own : (reference : ℕ) → order (stock_rows l b s ts known).world l reference ≡ order_in b reference
  order_own reference = ap (option_map (order_under reference)) (live_keyed l reference b)
