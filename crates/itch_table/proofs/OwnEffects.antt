-- The effects of a stock's messages on this stock's rows alone: they leave what they leave there among all rows.
use Rattle.std.proofs.Common.{◌≡◌, ◌==◌, ◌-◌, ℕ, List, [], ◌∷◌, ◌++◌, map, Option, Some, None, Bool, true, false, cond, refl, ap, sym, ◌∙◌, arith}
use Rattle.std.specs.Prelude.{filter}
use Rattle.std.specs.Cmp.{nat_cmp_total}
use Rattle.std.specs.FinMap.{nat_cmp-IsAntisymmetric}
use Rattle.std.proofs.lemmas.List.Elements.{filter-append}
use Rattle.std.proofs.lemmas.Grind.{common_steps}
use Rattle.std.proofs.lemmas.Bool.Decides.{nat_tests}
use Rattle.itch_layouts.specs.declared.message.Msg.{Msg}
use Rattle.itch_layouts.specs.declared.message.Msg.TheVariants.{System, Directory, Trading, Regsho, Add, AddMpid, Execute, ExecutePrice, Cancel, Delete, Replace, Trade, Cross, Broken}
use Rattle.itch_table.specs.declared.order.OrderRow.{OrderRow}
use Rattle.itch_table.specs.declared.outcome.Part.TheVariants.{Locate}
use Rattle.itch_table.specs.declared.status.StockRow.{StockRow}
use Rattle.itch_table.specs.declared.status.Trading.{Trading as TradingState}
use Rattle.itch_table.specs.declared.trades.TradeRow.{TradeRow}
use Rattle.itch_table.specs.Parts.{part_of_message}
use Rattle.itch_table.specs.Projection.{only}
use Rattle.itch_table.specs.Table.{effect, with_order, with_new_order, with_spent, without_order, less_shares, with_less, order_row, with_replaced, with_trade, with_stock, set_trading, set_regsho}
use Rattle.itch_table.specs.Trades.{broken_at}
use Rattle.itch_table.specs.World.{World, is_under, key, stock_row}
use Rattle.itch_table.proofs.Keys.{key_total, key_exact}
use Rattle.itch_table.proofs.KeptKeys.{kept-insert, kept-remove}
use Rattle.itch_table.proofs.OneStock.{same_code, same_world, live-only, stock_row-only}

with_order-only : (w : World) (l reference : ℕ) (row : OrderRow) → with_order (only l w) l reference row ≡ only l (with_order w l reference row)
unfolding only
with_order-only w l reference row =
    same_world _ _ (kept-insert key_total key_exact (is_under l) w.orders (key l reference) row (same_code l)) refl refl refl refl

with_spent-only : (w : World) (l reference : ℕ) → with_spent (only l w) l reference ≡ only l (with_spent w l reference)
unfolding only
with_spent-only w l reference = same_world _ _ refl (kept-insert key_total key_exact (is_under l) w.spent (key l reference) tt (same_code l)) refl refl refl

with_new_order-only : (w : World) (l reference : ℕ) (row : OrderRow) → with_new_order (only l w) l reference row ≡ only l (with_new_order w l reference row)
with_new_order-only w l reference row =
    ap (λ (v : World). with_order v l reference row) (with_spent-only w l reference) ∙ with_order-only (with_spent w l reference) l reference row

without_order-only : (w : World) (l reference : ℕ) → without_order (only l w) l reference ≡ only l (without_order w l reference)
unfolding only
without_order-only w l reference = same_world _ _ (kept-remove key_total key_exact (is_under l) w.orders (key l reference)) refl refl refl refl

less_shares-only : (w : World) (l reference : ℕ) (row : OrderRow) (shares : ℕ) → less_shares (only l w) l reference row shares ≡ only l (less_shares w l reference row shares)
less_shares-only w l reference row shares =
    elim (row.shares == shares) as (λ (b : Bool). less_by b (only l w) ≡ only l (less_by b w)) [
      | true ↦ without_order-only w l reference
      | false ↦ with_order-only w l reference (record row { shares = row.shares - shares })
    ]
  where
    less_by : Bool → World → World
    less_by b v = cond b (without_order v l reference) (with_order v l reference (record row { shares = row.shares - shares }))

order_row-only : (w : World) (l reference : ℕ) → order_row (only l w) l reference ≡ order_row w l reference
order_row-only w l reference = rw (live-only w l reference)

with_less-only : (w : World) (l reference shares : ℕ) → with_less (only l w) l reference shares ≡ only l (with_less w l reference shares)
with_less-only w l reference shares =
    ap (λ (row : OrderRow). less_shares (only l w) l reference row shares) (order_row-only w l reference)
    ∙ less_shares-only w l reference (order_row w l reference) shares

with_replaced-only : (w : World) (l old new shares price : ℕ) → with_replaced (only l w) l old new shares price ≡ only l (with_replaced w l old new shares price)
with_replaced-only w l old new shares price =
    ap (λ (row : OrderRow). with_new_order (without_order (only l w) l old) l new (record row { shares = shares; price = price })) (order_row-only w l old)
    ∙ ap (λ (v : World). with_new_order v l new (record (order_row w l old) { shares = shares; price = price })) (without_order-only w l old)
    ∙ with_new_order-only (without_order w l old) l new (record (order_row w l old) { shares = shares; price = price })

with_trade-only : (w : World) (l : ℕ) (trade : TradeRow) → with_trade (only l w) l trade ≡ only l (with_trade w l trade)
unfolding only
with_trade-only w l trade =
    let under : ℕ × TradeRow → Bool = λ row. row.0 == l in
    same_world _ _ refl refl
    (sym (filter-append under w.trades ((l, trade) ∷ []) ∙ ap (λ (b : Bool). filter under w.trades ++ cond b ((l, trade) ∷ []) []) (same_code l)))
    refl refl

with_stock-only : (w : World) (l : ℕ) (row : StockRow) → with_stock (only l w) l row ≡ only l (with_stock w l row)
unfolding only
with_stock-only w l row =
    same_world _ _ refl refl refl (kept-insert nat_cmp_total nat_cmp-IsAntisymmetric (λ code. code == l) w.stocks l row (same_code l)) refl

set_trading-only : (o : Option StockRow) (w : World) (l : ℕ) (state : TradingState) → set_trading o (only l w) l state ≡ only l (set_trading o w l state)
set_trading-only None w l state = refl
set_trading-only (Some known) w l state = with_stock-only w l (record known { trading = Some state })

set_regsho-only : (o : Option StockRow) (w : World) (l action : ℕ) → set_regsho o (only l w) l action ≡ only l (set_regsho o w l action)
set_regsho-only None w l action = refl
set_regsho-only (Some known) w l action = with_stock-only w l (record known { regsho = Some action })

broken_kept : (l match_no : ℕ) (rows : List (ℕ × TradeRow)) → map (broken_at l match_no) (filter (λ row. row.0 == l) rows) ≡ filter (λ row. row.0 == l) (map (broken_at l match_no) rows)
broken_kept l match_no [] = refl
broken_kept l match_no (row ∷ rows) = grind (arith, common_steps, nat_tests, broken_kept l match_no rows)

abbrev pub broken : World → ℕ → ℕ → World
broken w l match_no = record w { trades = map (broken_at l match_no) w.trades }

broken-only : (w : World) (l match_no : ℕ) → broken (only l w) l match_no ≡ only l (broken w l match_no)
unfolding only
broken-only w l match_no = same_world _ _ refl refl (broken_kept l match_no w.trades) refl refl

-- the effect leaves the same
pub effect-only : (m : Msg) (w : World) (l : ℕ) → part_of_message m ≡ Locate l → effect m (only l w) ≡ only l (effect m w)
effect-only (System head m) w l e = let never : ⊥ = cc in absurd never
effect-only (Directory head m) w l e = let same : head.locate ≡ l = cc in rw (same, stock_row-only w l) (with_stock-only w l _)
effect-only (Trading head m) w l e = let same : head.locate ≡ l = cc in rw (same, stock_row-only w l) (set_trading-only (stock_row w l) w l _)
effect-only (Regsho head m) w l e = let same : head.locate ≡ l = cc in rw (same, stock_row-only w l) (set_regsho-only (stock_row w l) w l m.action)
effect-only (Add head m) w l e = let same : head.locate ≡ l = cc in rw same (with_new_order-only w l m.reference _)
effect-only (AddMpid head m) w l e = let same : head.locate ≡ l = cc in rw same (with_new_order-only w l m.reference _)
effect-only (Execute head m) w l e =
    let same : head.locate ≡ l = cc in
    rw (same, with_less-only w l m.reference m.shares, order_row-only w l m.reference) (with_trade-only (with_less w l m.reference m.shares) l _)
effect-only (ExecutePrice head m) w l e =
    let same : head.locate ≡ l = cc in
    rw (same, with_less-only w l m.reference m.shares) (with_trade-only (with_less w l m.reference m.shares) l _)
effect-only (Cancel head m) w l e = let same : head.locate ≡ l = cc in rw same (with_less-only w l m.reference m.shares)
effect-only (Delete head m) w l e = let same : head.locate ≡ l = cc in rw same (without_order-only w l m.reference)
effect-only (Replace head m) w l e = let same : head.locate ≡ l = cc in rw same (with_replaced-only w l m.reference m.new_reference m.shares m.price)
effect-only (Trade head m) w l e = let same : head.locate ≡ l = cc in rw same (with_trade-only w l _)
effect-only (Cross head m) w l e = let same : head.locate ≡ l = cc in rw same (with_trade-only w l _)
effect-only (Broken head m) w l e = let same : head.locate ≡ l = cc in rw same (broken-only w l m.match_no)
effect-only m w l e = refl
