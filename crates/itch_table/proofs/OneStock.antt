-- One stock's rows: what is read of a stock is the same in them, and what is known under them after a change.
use Rattle.std.proofs.Common.{◌≡◌, ◌==◌, ℕ, List, [], ◌∷◌, map, Bool, true, None, cond, refl, ap, ◌∙◌, arith}
use Rattle.std.specs.Prelude.{filter, is_some, option_map}
use Rattle.std.specs.List.{list_any}
use Rattle.std.specs.Cmp.{nat_cmp_total}
use Rattle.std.specs.FinMap.{entries, get, nat_cmp-IsAntisymmetric}
use Rattle.std.proofs.lemmas.Grind.{common_steps}
use Rattle.std.proofs.lemmas.Bool.Decides.{nat_tests}
use Rattle.itch_table.specs.declared.order.OrderKey.{OrderKey}
use Rattle.itch_table.specs.declared.order.OrderRow.{OrderRow}
use Rattle.itch_table.specs.declared.trades.TradeRow.{TradeRow}
use Rattle.itch_table.specs.World.{World, is_spent, is_under, key, live, order, order_of, orders_of, status, status_of, stock_row, totals}
use Rattle.itch_table.specs.Trades.{is_unbroken, totals_of}
use Rattle.itch_table.specs.Projection.{only}
use Rattle.itch_table.proofs.Keys.{key_total, key_exact, filter-filter}
use Rattle.itch_table.proofs.KeptKeys.{get-kept, entries-kept}

pub same_code : (locate : ℕ) → (locate == locate) ≡ true
same_code locate = grind (arith, nat_tests)

pub live-only : (w : World) (locate reference : ℕ) → live (only locate w) locate reference ≡ live w locate reference
unfolding only
live-only w locate reference =
    get-kept key_total key_exact (is_under locate) w.orders (key locate reference)
    ∙ ap (λ (b : Bool). cond b (live w locate reference) None) (same_code locate)

pub spent-only : (w : World) (locate reference : ℕ) → is_spent (only locate w) locate reference ≡ is_spent w locate reference
unfolding only
spent-only w locate reference =
    ap is_some (
    get-kept key_total key_exact (is_under locate) w.spent (key locate reference)
    ∙ ap (λ (b : Bool). cond b (get w.spent (key locate reference)) None) (same_code locate)
    )

pub stock_row-only : (w : World) (locate : ℕ) → stock_row (only locate w) locate ≡ stock_row w locate
unfolding only
stock_row-only w locate =
    get-kept nat_cmp_total nat_cmp-IsAntisymmetric (λ code. code == locate) w.stocks locate
    ∙ ap (λ (b : Bool). cond b (stock_row w locate) None) (same_code locate)

any_kept : (locate match_no : ℕ) (rows : List (ℕ × TradeRow)) → list_any (is_unbroken locate match_no) (filter (λ row. row.0 == locate) rows) ≡ list_any (is_unbroken locate match_no) rows
any_kept locate match_no [] = refl
any_kept locate match_no (row ∷ rows) = grind (arith, common_steps, nat_tests, any_kept locate match_no rows)

pub unbroken-only : (w : World) (locate match_no : ℕ) → list_any (is_unbroken locate match_no) (only locate w).trades ≡ list_any (is_unbroken locate match_no) w.trades
unfolding only
unbroken-only w locate match_no = any_kept locate match_no w.trades

-- ---- what is read of a stock

pub orders_of-only : (w : World) (locate : ℕ) → orders_of (only locate w) locate ≡ orders_of w locate
unfolding only
orders_of-only w locate =
    let under : OrderKey × OrderRow → Bool = λ e. is_under locate e.0 in
    ap (map (λ (e : OrderKey × OrderRow). order_of e.0 e.1))
    (ap (filter under) (entries-kept key_total key_exact (is_under locate) w.orders) ∙ filter-filter under under (λ e h. h) (entries w.orders))

pub order-only : (w : World) (locate reference : ℕ) → order (only locate w) locate reference ≡ order w locate reference
order-only w locate reference = ap (option_map (order_of (key locate reference))) (live-only w locate reference)

pub status-only : (w : World) (locate : ℕ) → status (only locate w) locate ≡ status w locate
status-only w locate = ap status_of (stock_row-only w locate)

pub totals-only : (w : World) (locate : ℕ) → totals (only locate w) locate ≡ totals w locate
unfolding only
totals-only w locate =
    let under : ℕ × TradeRow → Bool = λ row. row.0 == locate in
    ap (λ (rows : List (ℕ × TradeRow)). totals_of (map (λ row. row.1) rows)) (filter-filter under under (λ row h. h) w.trades)

pub ruleset sufficient = (orders_of-only, order-only, spent-only, status-only, totals-only)

-- worlds are the same where their rows and their events are
pub same_world : (v w : World) → v.orders ≡ w.orders → v.spent ≡ w.spent → v.trades ≡ w.trades → v.stocks ≡ w.stocks → v.event ≡ w.event → v ≡ w
same_world v w orders spent trades stocks event = λ i. record { orders = orders i; spent = spent i; trades = trades i; stocks = stocks i; event = event i }
