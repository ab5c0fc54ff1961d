-- The lines of a day's summary, whose fields commas part. They are of this project; each ends with a line feed, and its
-- numbers are decimal.
use Rattle.std.specs.Prelude.{ℕ, List, [], ◌++◌, Option, Some, None, codes, decimal, length}
use Rattle.itch_layouts.specs.declared.message.Directory.{Directory}
use Rattle.itch_table.specs.declared.order.Top.{Top}
use Rattle.itch_table.specs.declared.status.Totals.{Totals}
use Rattle.itch_table.specs.Levels.{top}
use Rattle.itch_table.specs.World.{orders_of, status, totals}
use Rattle.stock_machine.specs.StockRows.{StockMachine}
use Rattle.stock_text.specs.Fields.{level_fields}
use Rattle.text_fields.specs.Quoted.{quoted}

-- the names of the fields
abbrev pub field_names : List ℕ
field_names =
    codes "locate,symbol,messages,refused,bid_price,bid_shares,ask_price,ask_shares,"
    ++ codes "orders,trades,shares,notional,unprinted\n"

-- the symbol of a stock between quotes, or nothing where it has no directory row
abbrev pub symbol_field : Option Directory → List ℕ
symbol_field None = []
symbol_field (Some row) = quoted row.stock

-- the locate code of a stock and its symbol
abbrev pub stock_fields : StockMachine → List ℕ
stock_fields machine =
    decimal machine.locate ++ codes "," ++ symbol_field (status machine.world machine.locate).directory

-- how many messages a stock has, and how many of them were refused
abbrev pub message_fields : ℕ → ℕ → List ℕ
message_fields messages refused = codes "," ++ decimal messages ++ codes "," ++ decimal refused

-- the best bid and the best ask, each with the shares there
abbrev pub top_fields : Top → List ℕ
top_fields best =
    level_fields best.bid_price best.bid_shares ++ level_fields best.ask_price best.ask_shares

-- the best bid and ask of a stock, and how many of its orders live
abbrev pub book_fields : StockMachine → List ℕ
book_fields machine =
    let orders = orders_of machine.world machine.locate in
    top_fields (top orders) ++ codes "," ++ decimal (length orders)

-- the totals over a stock's trades
abbrev pub totals_fields : Totals → List ℕ
totals_fields sums =
    codes "," ++ decimal sums.trades ++ codes "," ++ decimal sums.shares
    ++ codes "," ++ decimal sums.notional ++ codes "," ++ decimal sums.unprinted

-- the line of a stock, by its machine and by how many of its messages were refused
abbrev pub summary_line : StockMachine → ℕ → List ℕ
summary_line machine refused =
    stock_fields machine ++ message_fields machine.steps refused ++ book_fields machine
    ++ totals_fields (totals machine.world machine.locate) ++ codes "\n"
