-- The first breaks of trades, as they are kept by stock and match number. All is of this project.
use Rattle.std.specs.Prelude.{◌≡◌, ℕ, List, Option}
use Rattle.std.specs.declared.cmp.Ordering.{Ordering}
use Rattle.std.specs.BTreeMap.{BTreeMap, get}
use Rattle.std.specs.Ordering.{nat_cmp, ordering_then}
use Rattle.itch_readings.specs.Trades.{first_break}
use Rattle.itch_readings.specs.declared.broken_trades.MatchKey.{MatchKey}
use Rattle.itch_readings.specs.declared.trades.TradeEvent.{TradeEvent}

-- keys stand by locate code, and under one locate code by match number
abbrev pub match_cmp : MatchKey → MatchKey → Ordering
match_cmp a b = ordering_then (nat_cmp a.locate b.locate) (nat_cmp a.match_no b.match_no)

-- the number that is kept for a stock and a match number
abbrev pub number_at : BTreeMap MatchKey ℕ → ℕ → ℕ → Option ℕ
number_at numbers locate match_no = get match_cmp numbers (record { locate = locate; match_no = match_no })

-- for each stock and match number the first of these messages that breaks their trades is kept
abbrev pub AreFirstBreaks : List TradeEvent → BTreeMap MatchKey ℕ → Type 0
AreFirstBreaks events numbers =
    (locate match_no : ℕ) → number_at numbers locate match_no ≡ first_break locate match_no events
