-- The lines of what a screen has seen. They are of this project; each ends with a line feed, and its numbers are
-- decimal.
use Rattle.std.specs.Prelude.{ℕ, ◌==◌, if◌then◌else◌, List, ◌++◌, codes, decimal}
use Rattle.std.specs.List.{flat_map}
use Rattle.top_cell.specs.declared.reading.Reading.{Reading}

-- a side: its price and its shares, or `none` where it is empty
abbrev pub side_words : ℕ → ℕ → List ℕ
side_words price shares =
    if shares == 0 then codes "none" else decimal price ++ codes " " ++ decimal shares

-- the line of a reading: the number of its message, the bid and the ask
abbrev pub reading_line : Reading → List ℕ
reading_line r =
    codes "at " ++ decimal r.message ++ codes " bid " ++ side_words r.bid_price r.bid_shares
    ++ codes " ask " ++ side_words r.ask_price r.ask_shares ++ codes "\n"

-- the lines of readings
abbrev pub reading_lines : List Reading → List ℕ
reading_lines readings = flat_map reading_line readings
