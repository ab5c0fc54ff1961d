-- The lines of trades: comma-separated fields, numbers in decimal digits. All is of this project.
use Rattle.std.specs.Prelude.{ℕ, Bool, true, false, List, [], ◌++◌, Option, Some, None, codes, decimal}
use Rattle.std.specs.List.{flat_map}
use Rattle.itch_table.specs.declared.order.Side.{Side}
use Rattle.stock_text.specs.Orders.{side_text}
use Rattle.itch_readings.specs.OwnMessages.{OwnMessage}
use Rattle.itch_readings.specs.Trades.{trades_made}
use Rattle.itch_readings.specs.declared.trades.Stamp.{Stamp}
use Rattle.itch_readings.specs.declared.trades.Trade.{Trade}
use Rattle.itch_readings.specs.declared.trades.TradeEvent.{TradeEvent}
use Rattle.itch_readings.specs.declared.trades.TradeEvent.TheVariants.{Broke, Made}
use Rattle.itch_readings.specs.declared.trades.TradeKind.{TradeKind}
use Rattle.itch_readings.specs.declared.trades.TradeKind.TheVariants.{Crossed, Executed, ExecutedAtPrice, NotCrossed}

-- the type of the message that made a trade
abbrev pub kind_field : TradeKind → List ℕ
kind_field Executed = codes ",E"
kind_field ExecutedAtPrice = codes ",C"
kind_field NotCrossed = codes ",P"
kind_field Crossed = codes ",Q"

-- `B` or `S`, or nothing where there is no side
abbrev pub side_field : Option Side → List ℕ
side_field None = codes ","
side_field (Some side) = codes "," ++ side_text side

-- `Y` where a trade is printed, else `N`
abbrev pub printed_field : Bool → List ℕ
printed_field true = codes ",Y"
printed_field false = codes ",N"

-- the number of the message that broke a trade, or nothing where none did
abbrev pub broken_field : Option ℕ → List ℕ
broken_field None = codes ","
broken_field (Some message) = codes "," ++ decimal message

-- the number of a message, its time in nanoseconds since midnight, and its stock's locate code
abbrev pub stamp_fields : Stamp → List ℕ
stamp_fields at = decimal at.message ++ codes "," ++ decimal at.time ++ codes "," ++ decimal at.locate

-- the line of a trade: its message with its type, its side, its price, its shares, its match number, whether it is printed,
-- and what broke it
abbrev pub trade_line : Trade → List ℕ
trade_line trade =
    stamp_fields trade.at ++ kind_field trade.kind ++ side_field trade.side
    ++ codes "," ++ decimal trade.price ++ codes "," ++ decimal trade.shares
    ++ codes "," ++ decimal trade.match_no
    ++ printed_field trade.printed ++ broken_field trade.broken ++ codes "\n"

-- the line of an event, which a trade alone has
abbrev pub event_line : TradeEvent → List ℕ
event_line (Made trade) = trade_line trade
event_line (Broke b) = []

-- the names of the fields
abbrev pub field_names : List ℕ
field_names = codes "message,time,locate,type,side,price,shares,match_no,printed,broken\n"

-- the names of the fields, and the lines of trades
abbrev pub lines_text : List Trade → List ℕ
lines_text trades = field_names ++ flat_map trade_line trades

-- those of the trades that messages make
abbrev pub trades_text : List OwnMessage → List ℕ
trades_text messages = lines_text (trades_made messages)
