-- The effects of messages that aren't a stock's: they leave this stock's rows.
use Rattle.std.proofs.Common.{◌≡◌, ◌≢◌, ◌==◌, ◌-◌, ℕ, List, [], ◌∷◌, ◌++◌, map, append-nil, Option, Some, None, Bool, true, false, cond, refl, ap, ◌∙◌, arith}
use Rattle.std.specs.Prelude.{filter}
use Rattle.std.specs.Cmp.{nat_cmp_total}
use Rattle.std.specs.FinMap.{nat_cmp-IsAntisymmetric}
use Rattle.std.proofs.lemmas.Bool.{eqb-true}
use Rattle.std.proofs.lemmas.List.Elements.{filter-append}
use Rattle.std.proofs.lemmas.Grind.{common_steps}
use Rattle.std.proofs.lemmas.Bool.Decides.{nat_tests}
use Rattle.itch_layouts.specs.Shapes.{shape_of}
use Rattle.itch_layouts.specs.declared.message.Msg.{Msg}
use Rattle.itch_layouts.specs.declared.message.Msg.TheVariants.{System, Directory, Trading, Regsho, Add, AddMpid, Execute, ExecutePrice, Cancel, Delete, Replace, Trade, Cross, Broken}
use Rattle.itch_layouts.specs.declared.shape.Shape.{Shape}
use Rattle.itch_layouts.specs.declared.shape.Shape.TheVariants.{Known, Unknown, BadLength}
use Rattle.itch_table.specs.declared.order.OrderRow.{OrderRow}
use Rattle.itch_table.specs.declared.outcome.Fault.{Fault}
use Rattle.itch_table.specs.declared.outcome.Part.TheVariants.{Locate}
use Rattle.itch_table.specs.declared.status.StockRow.{StockRow}
use Rattle.itch_table.specs.declared.status.Trading.{Trading as TradingState}
use Rattle.itch_table.specs.declared.trades.TradeRow.{TradeRow}
use Rattle.itch_table.specs.Parts.{part_of_message, part_of_shape}
use Rattle.itch_table.specs.Projection.{only, OthersStay}
use Rattle.itch_table.specs.Table.{step_shape, checks, effect, first_fault, result_of, with_order, with_new_order, with_spent, without_order, less_shares, with_less, order_row, with_trade, with_stock, set_trading, set_regsho}
use Rattle.itch_table.specs.Trades.{broken_at}
use Rattle.itch_table.specs.World.{World, is_under, key, stock_row}
use Rattle.itch_table.proofs.Keys.{key_total, key_exact}
use Rattle.itch_table.proofs.KeptKeys.{dropped-insert, dropped-remove}
use Rattle.itch_table.proofs.OneStock.{same_world}
use Rattle.itch_table.proofs.OwnEffects.{broken}

-- locate codes of two parts that differ
other_code : (h l : ℕ) → Locate h ≢ Locate l → (h == l) ≡ false
other_code h l apart = elim (h == l) as (λ (b : Bool). (h == l) ≡ b → b ≡ false) [
  | true ↦ λ t. absurd (apart (ap Locate (eqb-true h l t)))
  | false ↦ λ f. refl
] refl

with_order-other : (w : World) (h l reference : ℕ) (row : OrderRow) → (h == l) ≡ false → only l (with_order w h reference row) ≡ only l w
unfolding only
with_order-other w h l reference row apart =
    same_world _ _ (dropped-insert key_total key_exact (is_under l) w.orders (key h reference) row apart) refl refl refl refl

with_spent-other : (w : World) (h l reference : ℕ) → (h == l) ≡ false → only l (with_spent w h reference) ≡ only l w
unfolding only
with_spent-other w h l reference apart = same_world _ _ refl (dropped-insert key_total key_exact (is_under l) w.spent (key h reference) tt apart) refl refl refl

with_new_order-other : (w : World) (h l reference : ℕ) (row : OrderRow) → (h == l) ≡ false → only l (with_new_order w h reference row) ≡ only l w
with_new_order-other w h l reference row apart = with_order-other (with_spent w h reference) h l reference row apart ∙ with_spent-other w h l reference apart

without_order-other : (w : World) (h l reference : ℕ) → (h == l) ≡ false → only l (without_order w h reference) ≡ only l w
unfolding only
without_order-other w h l reference apart =
    same_world _ _ (dropped-remove key_total key_exact (is_under l) w.orders (key h reference) apart) refl refl refl refl

less_shares-other : (w : World) (h l reference : ℕ) (row : OrderRow) (shares : ℕ) → (h == l) ≡ false → only l (less_shares w h reference row shares) ≡ only l w
less_shares-other w h l reference row shares apart =
    elim (row.shares == shares) as (λ (b : Bool). only l (less_by b) ≡ only l w) [
      | true ↦ without_order-other w h l reference apart
      | false ↦ with_order-other w h l reference (record row { shares = row.shares - shares }) apart
    ]
  where
    less_by : Bool → World
    less_by b = cond b (without_order w h reference) (with_order w h reference (record row { shares = row.shares - shares }))

with_trade-other : (w : World) (h l : ℕ) (trade : TradeRow) → (h == l) ≡ false → only l (with_trade w h trade) ≡ only l w
unfolding only
with_trade-other w h l trade apart =
    let under : ℕ × TradeRow → Bool = λ row. row.0 == l in
    same_world _ _ refl refl
    (filter-append under w.trades ((h, trade) ∷ []) ∙ ap (λ (b : Bool). filter under w.trades ++ cond b ((h, trade) ∷ []) []) apart ∙ append-nil (filter under w.trades))
    refl refl

with_stock-other : (w : World) (h l : ℕ) (row : StockRow) → (h == l) ≡ false → only l (with_stock w h row) ≡ only l w
unfolding only
with_stock-other w h l row apart =
    same_world _ _ refl refl refl (dropped-insert nat_cmp_total nat_cmp-IsAntisymmetric (λ code. code == l) w.stocks h row apart) refl

set_trading-other : (o : Option StockRow) (w : World) (h l : ℕ) (state : TradingState) → (h == l) ≡ false → only l (set_trading o w h state) ≡ only l w
set_trading-other None w h l state apart = refl
set_trading-other (Some known) w h l state apart = with_stock-other w h l (record known { trading = Some state }) apart

set_regsho-other : (o : Option StockRow) (w : World) (h l action : ℕ) → (h == l) ≡ false → only l (set_regsho o w h action) ≡ only l w
set_regsho-other None w h l action apart = refl
set_regsho-other (Some known) w h l action apart = with_stock-other w h l (record known { regsho = Some action }) apart

broken_dropped : (h l match_no : ℕ) (rows : List (ℕ × TradeRow)) → (h == l) ≡ false → filter (λ row. row.0 == l) (map (broken_at h match_no) rows) ≡ filter (λ row. row.0 == l) rows
broken_dropped h l match_no [] apart = refl
broken_dropped h l match_no (row ∷ rows) apart = grind (arith, common_steps, nat_tests, broken_dropped h l match_no rows)

broken-other : (w : World) (h l match_no : ℕ) → (h == l) ≡ false → only l (broken w h match_no) ≡ only l w
unfolding only
broken-other w h l match_no apart = same_world _ _ refl refl (broken_dropped h l match_no w.trades apart) refl refl

event-other : (w : World) (l : ℕ) (event : Option ℕ) → only l (record w { event = event }) ≡ only l w
unfolding only
event-other w l event = refl

effect-other : (m : Msg) (w : World) (l : ℕ) → part_of_message m ≢ Locate l → only l (effect m w) ≡ only l w
effect-other (System head m) w l apart = event-other w l (Some m.event)
effect-other (Directory head m) w l apart = with_stock-other w head.locate l _ (other_code head.locate l apart)
effect-other (Trading head m) w l apart = set_trading-other (stock_row w head.locate) w head.locate l _ (other_code head.locate l apart)
effect-other (Regsho head m) w l apart = set_regsho-other (stock_row w head.locate) w head.locate l m.action (other_code head.locate l apart)
effect-other (Add head m) w l apart = with_new_order-other w head.locate l m.reference _ (other_code head.locate l apart)
effect-other (AddMpid head m) w l apart = with_new_order-other w head.locate l m.reference _ (other_code head.locate l apart)
effect-other (Execute head m) w l apart =
    let other = other_code head.locate l apart in
    with_trade-other (with_less w head.locate m.reference m.shares) head.locate l _ other
    ∙ less_shares-other w head.locate l m.reference (order_row w head.locate m.reference) m.shares other
effect-other (ExecutePrice head m) w l apart =
    let other = other_code head.locate l apart in
    with_trade-other (with_less w head.locate m.reference m.shares) head.locate l _ other
    ∙ less_shares-other w head.locate l m.reference (order_row w head.locate m.reference) m.shares other
effect-other (Cancel head m) w l apart = less_shares-other w head.locate l m.reference (order_row w head.locate m.reference) m.shares (other_code head.locate l apart)
effect-other (Delete head m) w l apart = without_order-other w head.locate l m.reference (other_code head.locate l apart)
effect-other (Replace head m) w l apart =
    let other = other_code head.locate l apart in
    with_new_order-other (without_order w head.locate m.reference) head.locate l m.new_reference _ other ∙ without_order-other w head.locate l m.reference other
effect-other (Trade head m) w l apart = with_trade-other w head.locate l _ (other_code head.locate l apart)
effect-other (Cross head m) w l apart = with_trade-other w head.locate l _ (other_code head.locate l apart)
effect-other (Broken head m) w l apart = broken-other w head.locate l m.match_no (other_code head.locate l apart)
effect-other m w l apart = refl

result-other : (f : Option Fault) (v w : World) (l : ℕ) → only l w ≡ only l v → only l (result_of f v w).1 ≡ only l v
result-other None v w l same = same
result-other (Some fault) v w l same = refl

shape-other : (s : Shape) (w : World) (l : ℕ) → part_of_shape s ≢ Locate l → only l (step_shape w s).1 ≡ only l w
shape-other Unknown w l apart = refl
shape-other BadLength w l apart = refl
shape-other (Known m) w l apart = result-other (first_fault (checks m w)) w (effect m w) l (effect-other m w l apart)

pub others_stay : OthersStay
others_stay w payload l apart = shape-other (shape_of payload) w l apart
