-- The trades of messages as the trade rows of the table.
use Rattle.std.specs.Prelude.{◌≡◌, ◌==◌, ℕ, List, map, filter, is_some, length}
use Rattle.itch_table.specs.declared.trades.TradeRow.{TradeRow}
use Rattle.itch_table.specs.After.{after}
use Rattle.itch_table.specs.Trades.{totals_of}
use Rattle.itch_table.specs.World.{totals}
use Rattle.itch_readings.specs.AllStocks.{own_all}
use Rattle.itch_readings.specs.Naming.{NamesStock}
use Rattle.itch_readings.specs.OwnMessages.{own_from}
use Rattle.itch_readings.specs.Trades.{trades_made}
use Rattle.itch_readings.specs.declared.naming.StockName.{StockName}
use Rattle.itch_readings.specs.declared.trades.Trade.{Trade}

-- a trade as a row of the table: it is broken where a message broke it
abbrev pub table_row : Trade → TradeRow
table_row trade = record {
  match_no = trade.match_no;
  shares = trade.shares;
  price = trade.price;
  printed = trade.printed;
  broken = is_some trade.broken;
}

-- with its stock's locate code, as it stands among the rows of all stocks
abbrev pub row_of : Trade → ℕ × TradeRow
row_of trade = (trade.at.locate, table_row trade)

-- the trades of all stocks are the trade rows of the table after the day, in their order
abbrev pub AllTradesAreRows : Type 0
AllTradesAreRows =
    (day : List (List ℕ)) → map row_of (trades_made (own_all day)) ≡ (after day (length day)).trades

-- the trades of a stock that is named are the stock's
abbrev pub StockTradesAreRows : Type 0
StockTradesAreRows =
    (day : List (List ℕ)) (name : StockName) (n locate : ℕ) → NamesStock day name n locate
    → map row_of (trades_made (own_from day locate n))
    ≡ filter (λ row. row.0 == locate) (after day (length day)).trades

-- and the sums over them, without what was broken, are the stock's totals
abbrev pub TotalsAreOfTrades : Type 0
TotalsAreOfTrades =
    (day : List (List ℕ)) (name : StockName) (n locate : ℕ) → NamesStock day name n locate
    → totals_of (map table_row (trades_made (own_from day locate n))) ≡ totals (after day (length day)) locate
