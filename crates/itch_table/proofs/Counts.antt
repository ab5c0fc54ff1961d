-- How many orders there are.
use Rattle.std.proofs.Common.{◌≡◌, ℕ, ◌+◌, ◌-◌, ◌≤◌, ◌==◌, List, Option, Some, None, Bool, true, false, cond, length, refl, ap, arith}
use Rattle.std.specs.Prelude.{filter}
use Rattle.std.specs.FinMap.{entries, len, len-entries, len-insert, len-remove, len-empty}
use Rattle.std.proofs.lemmas.List.{length-map, length_push}
use Rattle.std.proofs.lemmas.List.Sums.{length-filter, count_by-le-length}
use Rattle.std.proofs.lemmas.Grind.{common_steps}
use Rattle.itch_layouts.specs.Shapes.{shape_of}
use Rattle.itch_layouts.specs.declared.message.Msg.{Msg}
use Rattle.itch_layouts.specs.declared.message.Msg.TheVariants.{System, Directory, Trading, Regsho, Add, AddMpid, Execute, ExecutePrice, Cancel, Delete, Replace, Trade, Cross, Broken}
use Rattle.itch_layouts.specs.declared.shape.Shape.{Shape}
use Rattle.itch_layouts.specs.declared.shape.Shape.TheVariants.{Known, Unknown, BadLength}
use Rattle.itch_table.specs.declared.outcome.Fault.{Fault}
use Rattle.itch_table.specs.declared.order.OrderKey.{OrderKey}
use Rattle.itch_table.specs.declared.order.OrderRow.{OrderRow}
use Rattle.itch_table.specs.World.{World, key, key_cmp, is_under, order_of, orders_of, empty_world, stock_row}
use Rattle.itch_table.specs.Table.{step, step_shape, checks, effect, first_fault, result_of, with_order, with_spent, without_order, less_shares, with_less, order_row, with_trade, set_trading, set_regsho}
use Rattle.itch_table.specs.Trades.{broken_at}
use Rattle.itch_table.specs.declared.status.StockRow.{StockRow}
use Rattle.itch_table.specs.declared.status.Trading.{Trading as TradingState}
use Rattle.itch_table.specs.declared.trades.TradeRow.{TradeRow}
use Rattle.itch_table.proofs.Keys.{key_total}

abbrev pub count : World → ℕ
count w = len w.orders

-- a stock has no more orders than there are
pub length-orders_of : (w : World) (locate : ℕ) → length (orders_of w locate) ≤ count w
length-orders_of w locate =
    let rows = entries w.orders in
    omega (
      arith,
      length-map (filter (λ (e : OrderKey × OrderRow). is_under locate e.0) rows) (λ (e : OrderKey × OrderRow). order_of e.0 e.1),
      length-filter (λ (e : OrderKey × OrderRow). is_under locate e.0) rows,
      count_by-le-length (λ (e : OrderKey × OrderRow). is_under locate e.0) rows,
      len-entries w.orders,
    )

with_order_few : (w : World) (locate reference : ℕ) (row : OrderRow) → count (with_order w locate reference row) ≤ count w + 1
with_order_few w locate reference row = grind (arith, common_steps, len-insert key_total w.orders (key locate reference) row)

without_order_few : (w : World) (locate reference : ℕ) → count (without_order w locate reference) ≤ count w
without_order_few w locate reference = grind (arith, common_steps, len-remove key_total w.orders (key locate reference))

-- one world has at most one order and at most one trade more than another
pub record Few (old new : World) : Type 0 where
  pub orders : count new ≤ count old + 1
  pub trades : length new.trades ≤ length old.trades + 1

same_few : (w : World) → Few w w
same_few w = record { orders = omega arith; trades = omega arith }

less_few : (w : World) (locate reference : ℕ) (row : OrderRow) (shares : ℕ)
    → (count (less_shares w locate reference row shares) ≤ count w + 1) × ((less_shares w locate reference row shares).trades ≡ w.trades)
less_few w locate reference row shares =
    elim (row.shares == shares) as (λ (b : Bool). (count (less_by b) ≤ count w + 1) × ((less_by b).trades ≡ w.trades)) [
      | true ↦ (omega (arith, without_order_few w locate reference), refl)
      | false ↦ (with_order_few w locate reference _, refl)
    ]
  where
    less_by : Bool → World
    less_by b = cond b (without_order w locate reference) (with_order w locate reference (record row { shares = row.shares - shares }))

traded_few : (w v : World) (locate : ℕ) (trade : TradeRow) → count v ≤ count w + 1 → v.trades ≡ w.trades → Few w (with_trade v locate trade)
traded_few w v locate trade few same = record { orders = few; trades = omega (arith, length_push v.trades (locate, trade), ap length same) }

executed_few : (w : World) (locate reference shares : ℕ) (trade : TradeRow) → Few w (with_trade (with_less w locate reference shares) locate trade)
executed_few w locate reference shares trade =
    let less = less_few w locate reference (order_row w locate reference) shares in
    traded_few w (with_less w locate reference shares) locate trade less.0 less.1

trading_few : (o : Option StockRow) (w : World) (locate : ℕ) (state : TradingState) → Few w (set_trading o w locate state)
trading_few None w locate state = same_few w
trading_few (Some row) w locate state = record { orders = omega arith; trades = omega arith }

regsho_few : (o : Option StockRow) (w : World) (locate action : ℕ) → Few w (set_regsho o w locate action)
regsho_few None w locate action = same_few w
regsho_few (Some row) w locate action = record { orders = omega arith; trades = omega arith }

effect_few : (m : Msg) (w : World) → Few w (effect m w)
effect_few (System head m) w = record { orders = omega arith; trades = omega arith }
effect_few (Directory head m) w = record { orders = omega arith; trades = omega arith }
effect_few (Trading head m) w = trading_few (stock_row w head.locate) w head.locate _
effect_few (Regsho head m) w = regsho_few (stock_row w head.locate) w head.locate m.action
effect_few (Add head m) w = record { orders = with_order_few (with_spent w head.locate m.reference) head.locate m.reference _; trades = omega arith }
effect_few (AddMpid head m) w = record { orders = with_order_few (with_spent w head.locate m.reference) head.locate m.reference _; trades = omega arith }
effect_few (Execute head m) w = executed_few w head.locate m.reference m.shares _
effect_few (ExecutePrice head m) w = executed_few w head.locate m.reference m.shares _
effect_few (Cancel head m) w =
    let less = less_few w head.locate m.reference (order_row w head.locate m.reference) m.shares in
    record { orders = less.0; trades = omega (arith, ap length less.1) }
effect_few (Delete head m) w = record { orders = omega (arith, without_order_few w head.locate m.reference); trades = omega arith }
effect_few (Replace head m) w = record {
  orders = omega (arith, without_order_few w head.locate m.reference, with_order_few (with_spent (without_order w head.locate m.reference) head.locate m.new_reference) head.locate m.new_reference (record (order_row w head.locate m.reference) { shares = m.shares; price = m.price }));
  trades = omega arith;
}
effect_few (Trade head m) w = traded_few w w head.locate _ (omega arith) refl
effect_few (Cross head m) w = traded_few w w head.locate _ (omega arith) refl
effect_few (Broken head m) w = record { orders = omega arith; trades = omega (arith, length-map w.trades (broken_at head.locate m.match_no)) }
effect_few m w = same_few w

result_few : (f : Option Fault) (v w : World) → Few v w → Few v (result_of f v w).1
result_few None v w few = few
result_few (Some fault) v w few = same_few v

shape_few : (w : World) (s : Shape) → Few w (step_shape w s).1
shape_few w Unknown = same_few w
shape_few w BadLength = same_few w
shape_few w (Known m) = result_few (first_fault (checks m w)) w (effect m w) (effect_few m w)

-- a step adds at most one order and one trade
pub step_few : (w : World) (payload : List ℕ) → Few w (step w payload).1
step_few w payload = shape_few w (shape_of payload)

pub none_at_first : count empty_world ≡ 0
none_at_first = len-empty key_cmp OrderRow
