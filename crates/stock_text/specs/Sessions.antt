-- A position of a day and a stock there, as sessions print them. The lines are of this project; each ends with a line feed,
-- and its numbers are decimal.
use Rattle.std.specs.Prelude.{ℕ, List, ◌++◌, Option, Some, None, codes, decimal}
use Rattle.std.specs.List.{flat_map}
use Rattle.itch_layouts.specs.declared.message.Directory.{Directory}
use Rattle.itch_table.specs.declared.order.Side.TheVariants.{Buy, Sell}
use Rattle.itch_table.specs.declared.outcome.Outcome.{Outcome}
use Rattle.itch_table.specs.declared.status.Status.{Status}
use Rattle.itch_table.specs.After.{after, outcome_at}
use Rattle.itch_table.specs.Levels.{levels}
use Rattle.itch_table.specs.World.{World, orders_of, status, totals}
use Rattle.stock_text.specs.Orders.{order_line, outcome_words}
use Rattle.stock_text.specs.Stocks.{ask_line, bid_line, stock_line, trades_line}

-- what became of the message at a position, or `start` at 0
abbrev pub outcome_text : Option Outcome → List ℕ
outcome_text None = codes "start"
outcome_text (Some outcome) = outcome_words outcome

-- a position, by the outcome of its message
abbrev pub position_words : ℕ → Option Outcome → List ℕ
position_words n outcome = codes "at " ++ decimal n ++ codes " " ++ outcome_text outcome

-- a position of a day
abbrev pub position_text : List (List ℕ) → ℕ → List ℕ
position_text day n = position_words n (outcome_at day n)

-- the levels of a stock: its bids and its asks
abbrev pub sides_of : World → ℕ → List ℕ
sides_of w locate =
    flat_map bid_line (levels (orders_of w locate) Buy)
    ++ flat_map ask_line (levels (orders_of w locate) Sell)

-- the levels, the orders and the totals of a stock
abbrev pub book_of : World → ℕ → List ℕ
book_of w locate =
    sides_of w locate ++ flat_map order_line (orders_of w locate) ++ trades_line (totals w locate)

-- a stock with this directory row, or that there is none
abbrev pub listed_text : ℕ → Option Directory → Status → List ℕ → List ℕ
listed_text locate None known book = codes "no stock " ++ decimal locate ++ codes "\n"
listed_text locate (Some row) known book = stock_line locate row.stock known.trading known.regsho ++ book

-- the lines of a stock, as the world has it
abbrev pub stock_text : World → ℕ → List ℕ
stock_text w locate =
    let known = status w locate in listed_text locate known.directory known (book_of w locate)

-- what a session prints that goes to a position and shows a stock
abbrev pub shown_text : List (List ℕ) → ℕ → ℕ → List ℕ
shown_text day n locate = position_text day n ++ codes "\n" ++ stock_text (after day n) locate
