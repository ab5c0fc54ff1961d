-- One stock's trades by their match numbers, and what is kept beside them.
use Rattle.std.specs.Prelude.{◌≡◌, ℕ, ◌==◌, ◌&&◌, not, Bool, true, false, if◌then◌else◌, List, length}
use Rattle.std.specs.List.Sorted.{IsNonDecreasingBy}
use Rattle.itch_table.specs.RunningTotals.{Within}
use Rattle.itch_table.specs.Trades.{totals_of}
use Rattle.itch_table.specs.declared.status.Totals.{Totals}
use Rattle.itch_table.specs.declared.trades.TradeRow.{TradeRow}

-- a trade has this match number and isn't broken
abbrev pub is_unbroken_trade : ℕ → TradeRow → Bool
is_unbroken_trade match_no trade = (trade.match_no == match_no) && not trade.broken

-- a trade, broken where it has this match number
abbrev pub broken_trade : ℕ → TradeRow → TradeRow
broken_trade match_no trade =
    if is_unbroken_trade match_no trade then record trade { broken = true } else trade

-- a trade has this match number
abbrev pub IsOfNumber : ℕ → TradeRow → Type 0
IsOfNumber match_no trade = trade.match_no ≡ match_no

-- a trade has another match number
abbrev pub IsOther : ℕ → TradeRow → Type 0
IsOther match_no trade = (trade.match_no == match_no) ≡ false

-- where this is true, match numbers never fall from one trade to the next
abbrev pub IsRising : List TradeRow → Bool → Type 0
IsRising trades rising = rising ≡ true → IsNonDecreasingBy (λ t. t.match_no) trades

-- the totals over the trades are kept beside them, and whether match numbers rise
pub record TotalsAreKept (trades : List TradeRow) (totals : Totals) (rising : Bool) : Type 0 where
  pub sums : totals ≡ totals_of trades
  pub within : Within totals (length trades)
  pub rises : IsRising trades rising
