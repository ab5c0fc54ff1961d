-- The lines of a trace: comma-separated fields, numbers in decimal digits. All is of this project.
use Rattle.std.specs.Prelude.{ℕ, ◌+◌, ◌==◌, ◌&&◌, Bool, not, nat_le, if◌then◌else◌, List, [], ◌∷◌, ◌++◌, codes, decimal, slice_index_or}
use Rattle.std.specs.List.{flat_map, range_with_len}
use Rattle.hex.specs.Hex.{encode_lower}
use Rattle.itch_layouts.specs.Means.{fields_of}
use Rattle.itch_layouts.specs.Shapes.{shape_of}
use Rattle.itch_layouts.specs.declared.shape.Shape.{Shape}
use Rattle.itch_layouts.specs.declared.shape.Shape.TheVariants.{Known}
use Rattle.itch_text.specs.Values.{denotes_itself}
use Rattle.itch_table.specs.Fault.{number_of}
use Rattle.itch_table.specs.Levels.{levels, no_level}
use Rattle.itch_table.specs.World.{orders_of}
use Rattle.itch_table.specs.declared.order.Level.{Level}
use Rattle.itch_table.specs.declared.order.Order.{Order}
use Rattle.itch_table.specs.declared.order.Side.TheVariants.{Buy, Sell}
use Rattle.itch_table.specs.declared.outcome.Outcome.{Outcome}
use Rattle.itch_table.specs.declared.outcome.Outcome.TheVariants.{Applied, Passed, Refused}
use Rattle.stock_text.specs.Fields.{level_fields}
use Rattle.itch_readings.specs.OwnMessages.{OwnMessage}
use Rattle.itch_trace.specs.declared.extent.Extent.{Extent}

-- the time of a message, in nanoseconds since midnight, and its locate code; nothing after the comma of what is no message
abbrev pub time_field : Shape → List ℕ
time_field (Known m) = codes "," ++ decimal (fields_of m).head.time
time_field other = codes ","

abbrev pub locate_field : Shape → List ℕ
locate_field (Known m) = codes "," ++ decimal (fields_of m).head.locate
locate_field other = codes ","

-- whether a type stands for itself: as in texts between quotes, but a comma and a space don't
abbrev pub is_plain : ℕ → Bool
is_plain byte = denotes_itself byte && (not (byte == 0x2c) && not (byte == 0x20))

-- a type: itself, or `\x` and its two hexadecimal digits in lower case
abbrev pub type_char : ℕ → List ℕ
type_char byte = if is_plain byte then byte ∷ [] else codes "\\x" ++ encode_lower (byte ∷ [])

-- the first byte of a payload, where it has one
abbrev pub type_field : List ℕ → List ℕ
type_field [] = codes ","
type_field (byte ∷ rest) = codes "," ++ type_char byte

-- what became of a message, a fault by its number
abbrev pub outcome_field : Outcome → List ℕ
outcome_field Applied = codes ",applied"
outcome_field Passed = codes ",passed"
outcome_field (Refused fault) = codes ",F" ++ decimal (number_of fault)

-- the price and the shares of a level; nothing where it is none
abbrev pub fields_of_level : Level → List ℕ
fields_of_level level = level_fields level.price level.shares

-- the bid and the ask at a place, counted from 0 at the best ones
abbrev pub place_fields : List Order → ℕ → List ℕ
place_fields orders place =
    fields_of_level (slice_index_or (levels orders Buy) place no_level)
    ++ fields_of_level (slice_index_or (levels orders Sell) place no_level)

-- those of so many places
abbrev pub depth_fields : ℕ → List Order → List ℕ
depth_fields depth orders = flat_map (place_fields orders) (range_with_len 0 depth)

-- a message: its number, its time, its type, its locate code and what became of it
abbrev pub message_fields : ℕ → List ℕ → Outcome → List ℕ
message_fields number payload outcome =
    decimal number ++ time_field (shape_of payload) ++ type_field payload
    ++ locate_field (shape_of payload) ++ outcome_field outcome

-- the line of a message: with the best levels of its stock after it
abbrev pub trace_line : ℕ → OwnMessage → List ℕ
trace_line depth m =
    message_fields m.number m.payload m.outcome ++ depth_fields depth (orders_of m.rows m.locate)
    ++ codes "\n"

-- whether the message of a number is wanted
abbrev pub is_wanted : Extent → ℕ → Bool
is_wanted extent number = nat_le extent.first number && nat_le number extent.last

-- the line of a message, where it is wanted
abbrev pub wanted_line : Extent → OwnMessage → List ℕ
wanted_line extent m = if is_wanted extent m.number then trace_line extent.depth m else []

-- the lines of some messages
abbrev pub lines_of : Extent → List OwnMessage → List ℕ
lines_of extent messages = flat_map (wanted_line extent) messages

-- the names of the fields of a place that has a number
abbrev pub numbered_names : ℕ → List ℕ
numbered_names number =
    (codes ",bid_price_" ++ decimal number) ++ (codes ",bid_shares_" ++ decimal number)
    ++ (codes ",ask_price_" ++ decimal number) ++ (codes ",ask_shares_" ++ decimal number)

-- those of a place, counted from 0: the best has no number, and the others are counted from 2
abbrev pub place_names : ℕ → List ℕ
place_names place =
    if place == 0 then codes ",bid_price,bid_shares,ask_price,ask_shares" else numbered_names (place + 1)

-- the first line, which has the names of the fields
abbrev pub head_line : ℕ → List ℕ
head_line depth =
    codes "message,time,type,locate,outcome" ++ flat_map place_names (range_with_len 0 depth) ++ codes "\n"

-- the trace of some messages
abbrev pub trace_text : Extent → List OwnMessage → List ℕ
trace_text extent messages = head_line extent.depth ++ lines_of extent messages
