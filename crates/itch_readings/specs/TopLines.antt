-- The lines of a stock's best bid and ask along a day: comma-separated fields, numbers in decimal digits. All is of
-- this project.
use Rattle.std.specs.Prelude.{◌≡◌, ℕ, ◌==◌, ◌&&◌, Bool, true, not, if◌then◌else◌, List, [], ◌∷◌, ◌++◌, map, codes, decimal}
use Rattle.itch_table.specs.declared.order.Top.{Top}
use Rattle.itch_table.specs.Levels.{top}
use Rattle.itch_table.specs.Shows.{no_top}
use Rattle.itch_table.specs.World.{orders_of}
use Rattle.stock_text.specs.Fields.{level_fields}
use Rattle.itch_readings.specs.OwnMessages.{OwnMessage}
use Rattle.itch_readings.specs.Tops.{time_of}
use Rattle.itch_readings.specs.declared.moments.Moment.{Moment}
use Rattle.itch_readings.specs.declared.top_lines.Selection.{Selection}
use Rattle.itch_readings.specs.declared.top_lines.Selection.TheVariants.{Changes, Every}

-- whether two tops differ
abbrev pub differs : Top → Top → Bool
differs before after =
    not ((before.bid_price == after.bid_price) && (before.bid_shares == after.bid_shares)
    && (before.ask_price == after.ask_price) && (before.ask_shares == after.ask_shares))

-- whether a message has a line, by the top before it and the one after it
abbrev pub is_shown : Selection → Top → Top → Bool
is_shown Changes before after = differs before after
is_shown Every before after = true

-- the line of a moment: the number of its message, its time in nanoseconds since midnight, the bid and the ask
abbrev pub moment_line : Moment → List ℕ
moment_line at =
    decimal at.message ++ codes "," ++ decimal at.time ++ level_fields at.top.bid_price at.top.bid_shares
    ++ level_fields at.top.ask_price at.top.ask_shares ++ codes "\n"

-- the line of a moment, if it has one, by the top before it
abbrev pub shown_line : Selection → Top → Moment → List ℕ
shown_line selection before at = if is_shown selection before at.top then moment_line at else []

-- the lines of a stock's moments, whose top was this one before them
abbrev pub moment_lines : Selection → Top → List Moment → List ℕ
moment_lines selection before [] = []
moment_lines selection before (at ∷ rest) = shown_line selection before at
    ++ moment_lines selection at.top rest

-- the names of the fields
abbrev pub field_names : List ℕ
field_names = codes "message,time,bid_price,bid_shares,ask_price,ask_shares\n"

-- the names of the fields, and the lines of all moments of a stock
abbrev pub tops_text : Selection → List Moment → List ℕ
tops_text selection moments = field_names ++ moment_lines selection no_top moments

-- the top after some moments of a stock, whose top was this one before them
abbrev pub last_top : Top → List Moment → Top
last_top before [] = before
last_top before (at ∷ rest) = last_top at.top rest

-- the moment of a stock's message
abbrev pub moment_of : OwnMessage → Moment
moment_of message = record {
  message = message.number;
  time = time_of message.payload;
  top = top (orders_of message.rows message.locate);
}

-- these are the lines of a stock's messages, and this is the top after them
pub record AreLines (selection chosen : Selection) (before : Top) (text : List ℕ)
    (messages : List OwnMessage) : Type 0 where
  pub chosen_is : chosen ≡ selection
  pub last : before ≡ last_top no_top (map moment_of messages)
  pub lines : text ≡ tops_text selection (map moment_of messages)
