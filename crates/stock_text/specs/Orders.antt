-- The lines of a stock's orders, and what became of its messages. They are of this project; each line ends with a line feed,
-- and its numbers are decimal.
use Rattle.std.specs.Prelude.{List, ℕ, ◌++◌, Option, Some, None, codes, decimal}
use Rattle.itch_table.specs.declared.order.Order.{Order}
use Rattle.itch_table.specs.declared.order.Side.{Side}
use Rattle.itch_table.specs.declared.order.Side.TheVariants.{Buy, Sell}
use Rattle.itch_table.specs.declared.outcome.Outcome.{Outcome}
use Rattle.itch_table.specs.declared.outcome.Outcome.TheVariants.{Applied, Passed, Refused}
use Rattle.itch_table.specs.Fault.{number_of}
use Rattle.text_fields.specs.Quoted.{quoted}

-- what became of a message
abbrev pub outcome_words : Outcome → List ℕ
outcome_words Applied = codes "applied"
outcome_words Passed = codes "passed"
outcome_words (Refused fault) = codes "refused F" ++ decimal (number_of fault)

-- `B` for a bid and `S` for an ask
abbrev pub side_text : Side → List ℕ
side_text Buy = codes "B"
side_text Sell = codes "S"

-- the market participant of an order, or `none`
abbrev pub attribution_text : Option (List ℕ) → List ℕ
attribution_text None = codes "none"
attribution_text (Some mpid) = quoted mpid

-- the line of an order: its reference, its side, its shares, its price and its attribution
abbrev pub order_line : Order → List ℕ
order_line order =
    codes "order " ++ decimal order.reference ++ codes " " ++ side_text order.side
    ++ codes " " ++ decimal order.shares ++ codes " " ++ decimal order.price
    ++ codes " " ++ attribution_text order.attribution ++ codes "\n"
