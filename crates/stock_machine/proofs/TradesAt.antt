-- A stock's trades under its locate code.
use Rattle.std.proofs.Common.{◌≡◌, ℕ, ◌==◌, ◌&&◌, ◌||◌, not, List, [], ◌∷◌, ◌++◌, map, length, cond, Bool, true, false, refl, ap, ◌∙◌}
use Rattle.std.specs.List.{list_any}
use Rattle.std.proofs.lemmas.List.{length-map, map-append}
use Rattle.itch_table.specs.Trades.{broken_at, is_unbroken, trades_under}
use Rattle.itch_table.specs.declared.trades.TradeRow.{TradeRow}
use Rattle.itch_table.proofs.OneStock.{same_code}
use Rattle.stock_machine.specs.StockRows.{trades_at}
use Rattle.stock_machine.specs.StockTrades.{broken_trade, is_unbroken_trade}

module _ (l : ℕ) where
  abbrev with_code : TradeRow → ℕ × TradeRow
  with_code t = (l, t)

  pub length_at : (ts : List TradeRow) → length (trades_at l ts) ≡ length ts
  length_at ts = length-map ts with_code

  pub push_at : (ts : List TradeRow) (t : TradeRow) → trades_at l (ts ++ t ∷ []) ≡ trades_at l ts ++ (l, t) ∷ []
  push_at ts t = map-append with_code ts (t ∷ [])

  pub under_at : (ts : List TradeRow) → trades_under l (trades_at l ts) ≡ ts
  under_at [] = refl
  under_at (t ∷ ts) = rw (same_code l) (ap (λ rest. t ∷ rest) (under_at ts))

  unbroken_at : (m : ℕ) (t : TradeRow) → is_unbroken l m (l, t) ≡ is_unbroken_trade m t
  unbroken_at m t = ap (λ b. (b && (t.match_no == m)) && not t.broken) (same_code l)

  pub any_at : (m : ℕ) (ts : List TradeRow) → list_any (is_unbroken l m) (trades_at l ts) ≡ list_any (is_unbroken_trade m) ts
  any_at m [] = refl
  any_at m (t ∷ ts) = λ i. unbroken_at m t i || any_at m ts i

  pub broken_trades_at : (m : ℕ) (ts : List TradeRow) → map (broken_at l m) (trades_at l ts) ≡ trades_at l (map (broken_trade m) ts)
  broken_trades_at m [] = refl
  broken_trades_at m (t ∷ ts) = λ i. one i ∷ broken_trades_at m ts i
    where
      chosen : (b : Bool) (x y : TradeRow) → cond b (with_code x) (with_code y) ≡ with_code (cond b x y)
      chosen true x y = refl
      chosen false x y = refl

      one : broken_at l m (with_code t) ≡ with_code (broken_trade m t)
      one = ap (λ b. cond b (with_code (record t { broken = true })) (with_code t)) (unbroken_at m t) ∙ chosen (is_unbroken_trade m t) (record t { broken = true }) t
