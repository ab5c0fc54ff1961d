-- What is of no stock: payloads with one outcome everywhere, and the event.
use Rattle.std.proofs.Common.{◌≡◌, ◌==◌, ◌-◌, ℕ, Option, Some, None, Bool, true, false, cond, refl}
use Rattle.itch_layouts.specs.Shapes.{shape_of}
use Rattle.itch_layouts.specs.declared.message.Msg.{Msg}
use Rattle.itch_layouts.specs.declared.message.Msg.TheVariants.{System, Trading, Regsho, Decline, Breach, Ipo, Execute, ExecutePrice, Cancel}
use Rattle.itch_layouts.specs.declared.shape.Shape.{Shape}
use Rattle.itch_layouts.specs.declared.shape.Shape.TheVariants.{Known, Unknown, BadLength}
use Rattle.itch_table.specs.declared.outcome.Fault.{Fault}
use Rattle.itch_table.specs.declared.outcome.Outcome.{Outcome}
use Rattle.itch_table.specs.declared.outcome.Part.TheVariants.{Nowhere}
use Rattle.itch_table.specs.Parts.{part_of_message, part_of_shape}
use Rattle.itch_table.specs.Projection.{OutcomesAreFixed, SystemSetsEvent, event_with}
use Rattle.itch_table.specs.Table.{step_shape, step_message, checks, effect, first_fault, result_of, with_order, without_order, less_shares, order_row, set_trading, set_regsho}
use Rattle.itch_table.specs.World.{World, stock_row}
use Rattle.itch_table.specs.declared.order.OrderRow.{OrderRow}
use Rattle.itch_table.specs.declared.status.StockRow.{StockRow}
use Rattle.itch_table.specs.declared.status.Trading.{Trading as TradingState}

message_fixed : (m : Msg) (w : World) (fixed : Outcome) → part_of_message m ≡ Nowhere fixed → (step_message w m).0 ≡ fixed
message_fixed (System head m) w fixed e = cc
message_fixed (Decline head m) w fixed e = cc
message_fixed (Breach head m) w fixed e = cc
message_fixed (Ipo head m) w fixed e = cc
message_fixed m w fixed e = let never : ⊥ = cc in absurd never

shape_fixed : (s : Shape) (w : World) (fixed : Outcome) → part_of_shape s ≡ Nowhere fixed → (step_shape w s).0 ≡ fixed
shape_fixed Unknown w fixed e = cc
shape_fixed BadLength w fixed e = cc
shape_fixed (Known m) w fixed e = message_fixed m w fixed e

pub outcomes_are_fixed : OutcomesAreFixed
outcomes_are_fixed w payload fixed e = shape_fixed (shape_of payload) w fixed e

-- ---- the event

less_event : (w : World) (locate reference : ℕ) (row : OrderRow) (shares : ℕ) → (less_shares w locate reference row shares).event ≡ w.event
less_event w locate reference row shares =
    elim (row.shares == shares) as (λ (b : Bool). (less_by b).event ≡ w.event) [ true ↦ refl | false ↦ refl ]
  where
    less_by : Bool → World
    less_by b = cond b (without_order w locate reference) (with_order w locate reference (record row { shares = row.shares - shares }))

trading_event : (o : Option StockRow) (w : World) (locate : ℕ) (state : TradingState) → (set_trading o w locate state).event ≡ w.event
trading_event None w locate state = refl
trading_event (Some known) w locate state = refl

regsho_event : (o : Option StockRow) (w : World) (locate action : ℕ) → (set_regsho o w locate action).event ≡ w.event
regsho_event None w locate action = refl
regsho_event (Some known) w locate action = refl

effect_event : (m : Msg) (w : World) → (effect m w).event ≡ event_with (Known m) w.event
effect_event (Trading head m) w = trading_event (stock_row w head.locate) w head.locate _
effect_event (Regsho head m) w = regsho_event (stock_row w head.locate) w head.locate m.action
effect_event (Execute head m) w = less_event w head.locate m.reference (order_row w head.locate m.reference) m.shares
effect_event (ExecutePrice head m) w = less_event w head.locate m.reference (order_row w head.locate m.reference) m.shares
effect_event (Cancel head m) w = less_event w head.locate m.reference (order_row w head.locate m.reference) m.shares
effect_event m w = refl

result_event : (f : Option Fault) (w v : World) → v.event ≡ w.event → (result_of f w v).1.event ≡ w.event
result_event None w v same = same
result_event (Some fault) w v same = refl

message_event : (m : Msg) (w : World) → (step_message w m).1.event ≡ event_with (Known m) w.event
message_event (System head m) w = refl
message_event m w = result_event (first_fault (checks m w)) w (effect m w) (effect_event m w)

shape_event : (s : Shape) (w : World) → (step_shape w s).1.event ≡ event_with s w.event
shape_event Unknown w = refl
shape_event BadLength w = refl
shape_event (Known m) w = message_event m w

pub system_sets_event : SystemSetsEvent
system_sets_event w payload = shape_event (shape_of payload) w
