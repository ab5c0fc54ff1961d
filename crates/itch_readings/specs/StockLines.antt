-- The lines of a day's stocks. They are of this project; each ends with a line feed, and its numbers are decimal.
use Rattle.std.specs.Prelude.{ℕ, ◌+◌, nat_lt, if◌then◌else◌, List, [], ◌∷◌, ◌++◌, Option, Some, None, codes, decimal}
use Rattle.text_fields.specs.Quoted.{quoted}
use Rattle.itch_readings.specs.declared.naming.Listed.{Listed}

-- a symbol between quotes, or `none` where there is none
abbrev pub symbol_words : Option (List ℕ) → List ℕ
symbol_words None = codes "none"
symbol_words (Some symbol) = quoted symbol

-- the line of a stock: its locate code, its symbol and how many messages it has; one without messages has none
abbrev pub listed_line : ℕ → Listed → List ℕ
listed_line locate known =
    if nat_lt 0 known.messages then
    codes "stock " ++ decimal locate ++ codes " " ++ symbol_words known.symbol
    ++ codes " messages " ++ decimal known.messages ++ codes "\n"
    else []

-- the lines of these stocks, which have the locate codes from this one on
abbrev pub listed_lines : ℕ → List Listed → List ℕ
listed_lines locate [] = []
listed_lines locate (known ∷ rest) = listed_line locate known ++ listed_lines (locate + 1) rest
