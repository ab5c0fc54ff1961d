-- The trades of stocks, as messages make and break them: executions, trades of orders that aren't displayed, and crosses.
-- Nasdaq TotalView-ITCH 5.0, "Order Executed Message", "Trade Messages" and "Broken Trade"; that a break is for all trades
-- of its stock with its match number is of this project.
use Rattle.std.specs.Prelude.{ℕ, ◌==◌, ◌&&◌, true, if◌then◌else◌, List, [], ◌∷◌, Option, Some, None, option_map}
use Rattle.std.specs.List.{filter_map}
use Rattle.itch_layouts.specs.Means.{fields_of}
use Rattle.itch_layouts.specs.Shapes.{shape_of}
use Rattle.itch_layouts.specs.declared.message.Cross.{Cross as CrossBody}
use Rattle.itch_layouts.specs.declared.message.Execute.{Execute as ExecuteBody}
use Rattle.itch_layouts.specs.declared.message.ExecutePrice.{ExecutePrice as ExecutePriceBody}
use Rattle.itch_layouts.specs.declared.message.Msg.{Msg}
use Rattle.itch_layouts.specs.declared.message.Msg.TheVariants.{Broken, Cross, Execute, ExecutePrice, Trade as NonCross}
use Rattle.itch_layouts.specs.declared.message.NonCrossTrade.{NonCrossTrade}
use Rattle.itch_layouts.specs.declared.shape.Shape.{Shape}
use Rattle.itch_layouts.specs.declared.shape.Shape.TheVariants.{Known}
use Rattle.itch_table.specs.declared.order.Order.{Order}
use Rattle.itch_table.specs.declared.outcome.Outcome.{Outcome}
use Rattle.itch_table.specs.declared.outcome.Outcome.TheVariants.{Applied}
use Rattle.itch_table.specs.Table.{printed_byte, side_of}
use Rattle.itch_readings.specs.OwnMessages.{OwnMessage}
use Rattle.itch_readings.specs.declared.trades.Stamp.{Stamp}
use Rattle.itch_readings.specs.declared.trades.Trade.{Trade}
use Rattle.itch_readings.specs.declared.trades.TradeEvent.{TradeEvent}
use Rattle.itch_readings.specs.declared.trades.TradeEvent.TheVariants.{Broke, Made}
use Rattle.itch_readings.specs.declared.trades.TradeKind.TheVariants.{Crossed, Executed, ExecutedAtPrice, NotCrossed}

-- ---- the trade of each message, not broken yet

-- an execution at the price of the order
abbrev pub executed : Stamp → Order → ExecuteBody → Trade
executed at order m = record {
  at = at;
  kind = Executed;
  side = Some order.side;
  price = order.price;
  shares = m.shares;
  match_no = m.match_no;
  printed = true;
  broken = None;
}

-- an execution at a price of its own, which may be left unprinted
abbrev pub executed_at_price : Stamp → Order → ExecutePriceBody → Trade
executed_at_price at order m = record {
  at = at;
  kind = ExecutedAtPrice;
  side = Some order.side;
  price = m.price;
  shares = m.shares;
  match_no = m.match_no;
  printed = m.printable == printed_byte;
  broken = None;
}

-- a trade of an order that isn't displayed, whose side the message says
abbrev pub not_crossed : Stamp → NonCrossTrade → Trade
not_crossed at m = record {
  at = at;
  kind = NotCrossed;
  side = Some (side_of m.side);
  price = m.price;
  shares = m.shares;
  match_no = m.match_no;
  printed = true;
  broken = None;
}

-- a cross, which has no side
abbrev pub crossed : Stamp → CrossBody → Trade
crossed at m = record {
  at = at;
  kind = Crossed;
  side = None;
  price = m.price;
  shares = m.shares;
  match_no = m.match_no;
  printed = true;
  broken = None;
}

-- ---- what a message does to trades

-- what an applied message does, by the order that its first reference named before it
abbrev pub event_by_message : Stamp → Option Order → Msg → Option TradeEvent
event_by_message at named (Execute head m) = option_map (λ order. Made (executed at order m)) named
event_by_message at named (ExecutePrice head m) =
    option_map (λ order. Made (executed_at_price at order m)) named
event_by_message at named (NonCross head m) = Some (Made (not_crossed at m))
event_by_message at named (Cross head m) = Some (Made (crossed at m))
event_by_message at named (Broken head m) = Some (Broke (record { at = at; match_no = m.match_no }))
event_by_message at named other = None

-- what a message does, by its number, its stock's locate code and its outcome: nothing where it isn't applied
abbrev pub event_by : ℕ → ℕ → Option Order → Outcome → Shape → Option TradeEvent
event_by number locate named Applied (Known m) =
    event_by_message (record { message = number; time = (fields_of m).head.time; locate = locate }) named m
event_by number locate named outcome shape = None

abbrev pub event_of : OwnMessage → Option TradeEvent
event_of message =
    event_by message.number message.locate message.named message.outcome (shape_of message.payload)

-- what messages do
abbrev pub events_of : List OwnMessage → List TradeEvent
events_of messages = filter_map event_of messages

-- ---- broken trades

-- the number of the first of these messages that breaks the trades of a stock with a match number
abbrev pub first_break : ℕ → ℕ → List TradeEvent → Option ℕ
first_break locate match_no [] = None
first_break locate match_no (Made trade ∷ later) = first_break locate match_no later
first_break locate match_no (Broke b ∷ later) =
    if (locate == b.at.locate) && (match_no == b.match_no) then Some b.at.message
    else first_break locate match_no later

-- a trade, broken by the first later message that breaks it
abbrev pub with_break : TradeEvent → List TradeEvent → TradeEvent
with_break (Made trade) later =
    Made (record trade { broken = first_break trade.at.locate trade.match_no later })
with_break (Broke b) later = Broke b

abbrev pub with_breaks : List TradeEvent → List TradeEvent
with_breaks [] = []
with_breaks (event ∷ later) = with_break event later ∷ with_breaks later

-- ---- the trades of messages

-- the trade that an event makes
abbrev pub trade_in : TradeEvent → Option Trade
trade_in (Made trade) = Some trade
trade_in (Broke b) = None

-- the trades among events, each with what broke it
abbrev pub trades_of : List TradeEvent → List Trade
trades_of events = filter_map trade_in (with_breaks events)

-- the trades that messages make
abbrev pub trades_made : List OwnMessage → List Trade
trades_made messages = trades_of (events_of messages)
