-- The lines of a stock in a report, which a session's answers have too. They are of this project; each ends with a line
-- feed, and its numbers are decimal.
use Rattle.std.specs.Prelude.{ℕ, List, [], ◌∷◌, ◌++◌, Option, Some, None, codes, decimal}
use Rattle.std.specs.List.{flat_map}
use Rattle.itch_layouts.specs.declared.message.Directory.{Directory}
use Rattle.itch_table.specs.declared.order.Level.{Level}
use Rattle.itch_table.specs.declared.order.Side.TheVariants.{Buy, Sell}
use Rattle.itch_table.specs.declared.status.Status.{Status}
use Rattle.itch_table.specs.declared.status.Totals.{Totals}
use Rattle.itch_table.specs.declared.status.Trading.{Trading}
use Rattle.itch_table.specs.World.{World, orders_of, status, totals}
use Rattle.itch_table.specs.Levels.{levels}
use Rattle.text_fields.specs.Quoted.{quoted, quoted_byte}

-- the trading state and its reason
abbrev pub trading_words : Option Trading → List ℕ
trading_words None = codes " state none reason none"
trading_words (Some trading) =
    codes " state " ++ quoted (trading.state ∷ []) ++ codes " reason " ++ quoted trading.reason

-- the first line of a stock: its locate code, its symbol, its trading state and its short sale action
abbrev pub stock_line : ℕ → List ℕ → Option Trading → Option ℕ → List ℕ
stock_line locate stock trading regsho =
    codes "stock " ++ decimal locate ++ codes " " ++ quoted stock ++ trading_words trading
    ++ codes " regsho " ++ quoted_byte regsho ++ codes "\n"

-- the word for a side, a price and the shares there
abbrev pub level_line : List ℕ → Level → List ℕ
level_line side level = side ++ decimal level.price ++ codes " " ++ decimal level.shares ++ codes "\n"

-- the line of a bid level: its price and its shares
abbrev pub bid_line : Level → List ℕ
bid_line level = level_line (codes "bid ") level

-- the line of an ask level: its price and its shares
abbrev pub ask_line : Level → List ℕ
ask_line level = level_line (codes "ask ") level

-- the line of a stock's totals
abbrev pub trades_line : Totals → List ℕ
trades_line sums =
    codes "trades " ++ decimal sums.trades ++ codes " shares " ++ decimal sums.shares
    ++ codes " notional " ++ decimal sums.notional
    ++ codes " unprinted " ++ decimal sums.unprinted ++ codes "\n"

-- the book and the trades of a stock: its bids, its asks, and the sums over its trades
abbrev pub book_lines : List Level → List Level → Totals → List ℕ
book_lines bids asks sums = flat_map bid_line bids ++ flat_map ask_line asks ++ trades_line sums

-- a stock's lines; a locate code without a directory row has none
abbrev pub listed_lines : ℕ → Option Directory → Status → List Level → List Level → Totals → List ℕ
listed_lines locate None known bids asks sums = []
listed_lines locate (Some row) known bids asks sums =
    stock_line locate row.stock known.trading known.regsho ++ book_lines bids asks sums

-- the lines of a stock: what is known of it, its levels and its totals
abbrev pub lines_of_stock : ℕ → Status → List Level → List Level → Totals → List ℕ
lines_of_stock locate known bids asks sums = listed_lines locate known.directory known bids asks sums

-- the lines of the stock of a locate code, as the world has it
abbrev pub stock_lines : World → ℕ → List ℕ
stock_lines world locate =
    let orders = orders_of world locate in
    lines_of_stock locate (status world locate) (levels orders Buy) (levels orders Sell) (totals world locate)
