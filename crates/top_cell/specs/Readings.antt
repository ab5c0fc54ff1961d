-- What a reading shows. Of this project.
use Rattle.std.specs.Prelude.{ℕ, List}
use Rattle.itch_table.specs.declared.order.Top.{Top}
use Rattle.itch_table.specs.Shows.{words_of}
use Rattle.top_cell.specs.declared.reading.Reading.{Reading}

-- the best bid and ask of a reading
abbrev pub top_read : Reading → Top
top_read r = record {
  bid_price = r.bid_price;
  bid_shares = r.bid_shares;
  ask_price = r.ask_price;
  ask_shares = r.ask_shares;
}

-- the four words that a reading was taken from
abbrev pub words_read : Reading → List ℕ
words_read r = words_of r.message (top_read r)
