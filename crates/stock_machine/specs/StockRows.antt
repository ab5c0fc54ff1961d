-- One stock's rows, as that stock's rows of a world.
use Rattle.std.specs.Prelude.{ℕ, ◌-◌, ◌<◌, ◌^◌, length, List, map, Option, Some, None}
use Rattle.std.specs.Ordering.{nat_cmp}
use Rattle.std.specs.FinMap as maps
use Rattle.std.specs.FinMap.{FinMap}
use Rattle.itch_table.specs.Held.{Held, one_stock}
use Rattle.itch_table.specs.KeySets.{KeySet, KeysAreIn}
use Rattle.itch_table.specs.World.{World, key, key_cmp}
use Rattle.itch_table.specs.declared.status.StockRow.{StockRow}
use Rattle.itch_table.specs.declared.trades.TradeRow.{TradeRow}
use Rattle.order_book.specs.Orders.{Orders}

-- a stock's locate code, and its rows of the world
pub record StockRows : Type 0 where
  pub locate : ℕ
  pub world : World

-- what stands under references, under their locate code
abbrev pub keyed : {X : Type 0} → ℕ → FinMap nat_cmp X → FinMap key_cmp X
keyed locate rows = maps.from_sorted (map (λ e. (key locate e.0, e.1)) (maps.entries rows))

-- what is known of the stock, under its locate code
abbrev pub stocks_of : ℕ → Option StockRow → FinMap nat_cmp StockRow
stocks_of locate None = maps.empty
stocks_of locate (Some row) = maps.insert maps.empty locate row

-- a stock's trades, each with the locate code
abbrev pub trades_at : ℕ → List TradeRow → List (ℕ × TradeRow)
trades_at locate trades = map (λ t. (locate, t)) trades

-- the rows that a stock's orders, the references that they have had, its trades and what is known of it stand for
abbrev pub stock_rows : ℕ → Orders → KeySet nat_cmp → List TradeRow → Option StockRow → StockRows
stock_rows locate orders spent trades known = record {
  locate = locate;
  world = record {
    orders = keyed locate orders;
    spent = keyed locate spent;
    trades = trades_at locate trades;
    stocks = stocks_of locate known;
    event = None;
  };
}

-- each live order's reference is spent
abbrev pub LiveAreSpent : Orders → KeySet nat_cmp → Type 0
LiveAreSpent orders spent = KeysAreIn orders spent

-- the rows of the one stock
abbrev pub held_by_one : StockRows → Held
held_by_one o = one_stock o.locate o.world

-- there may be an order and a trade more
pub record HasRoomForRows (w : World) : Type 0 where
  pub orders : maps.len w.orders < 2 ^ 32 - 1
  pub trades : length w.trades < 2 ^ 32 - 1

-- a stock's machine, as contracts see it: its locate code, its rows of the world, and how many messages it has taken
pub record StockMachine : Type 0 where
  pub locate : ℕ
  pub world : World
  pub steps : ℕ
