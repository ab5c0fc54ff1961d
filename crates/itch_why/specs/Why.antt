-- What became of a message of a day, and why: what its stock had before it, and the earlier messages about its orders. The lines
-- are of this project; each ends with a line feed, and its numbers are decimal.
use Rattle.std.specs.Prelude.{◌≡◌, ◌<◌, ◌≤◌, ◌-◌, ◌^◌, ◌==◌, ℕ, Bool, true, false, not, if◌then◌else◌, List, [], ◌∷◌, ◌++◌, length, take, filter, Option, Some, None, codes, decimal}
use Rattle.std.specs.List.{flat_map, list_any}
use Rattle.std.specs.declared.vec.Vec.{Vec}
use Rattle.binaryfile.specs.Entries.{Contents}
use Rattle.binaryfile.specs.declared.day.Limits.{Limits}
use Rattle.itch_layouts.specs.Shapes.{shape_of}
use Rattle.itch_layouts.specs.declared.message.Directory.{Directory as DirectoryRow}
use Rattle.itch_layouts.specs.declared.message.Msg.{Msg}
use Rattle.itch_layouts.specs.declared.message.Msg.TheVariants.{Execute, ExecutePrice, Trade, Cross, Broken}
use Rattle.itch_layouts.specs.declared.shape.Shape.{Shape}
use Rattle.itch_layouts.specs.declared.shape.Shape.TheVariants.{Known}
use Rattle.itch_print.specs.Disassembly.{ended, payload_line}
use Rattle.itch_readings.specs.OwnMessages.{OwnMessage, order_named, own_from, references_by}
use Rattle.itch_readings.specs.declared.fault.StockFault.{StockFault}
use Rattle.itch_readings.specs.declared.fault.StockFault.TheVariants.{NoStock, PastEnd, Changed, Engine as OfEngine}
use Rattle.itch_show.specs.Engine.{Question}
use Rattle.itch_show.specs.Parts.{Exceeds}
use Rattle.itch_show.specs.declared.place.Place.TheVariants.{After}
use Rattle.itch_table.specs.declared.order.Order.{Order}
use Rattle.itch_table.specs.declared.outcome.Fault.{Fault}
use Rattle.itch_table.specs.declared.outcome.Outcome.{Outcome}
use Rattle.itch_table.specs.declared.outcome.Outcome.TheVariants.{Applied, Refused}
use Rattle.itch_table.specs.declared.outcome.Part.{Part}
use Rattle.itch_table.specs.declared.outcome.Part.TheVariants.{Locate, Nowhere}
use Rattle.itch_table.specs.After.{after, outcome}
use Rattle.itch_table.specs.Parts.{part}
use Rattle.itch_table.specs.Projection.{payload_at}
use Rattle.itch_table.specs.World.{World, is_spent, order, status}
use Rattle.refusal_text.specs.Reasons.{refusal_line, refusal_lines}
use Rattle.refusal_text.specs.declared.before.Before.{Before}
use Rattle.stock_text.specs.Orders.{order_line}
use Rattle.stock_text.specs.Sessions.{position_words}

-- ---- what its stock had before a message

-- the symbol of a directory row
abbrev pub symbol_in : Option DirectoryRow → List ℕ
symbol_in None = codes "        "
symbol_in (Some row) = row.stock

-- the shares of an order
abbrev pub shares_left : Option Order → ℕ
shares_left None = 0
shares_left (Some found) = found.shares

-- what the reason of a fault says of the stock's rows
abbrev pub before_of : World → ℕ → List ℕ → Before
before_of w locate payload = record {
  symbol = symbol_in (status w locate).directory;
  shares = shares_left (order_named w locate payload);
}

-- the same where a payload is of no stock
abbrev pub nothing_before : Before
nothing_before = record { symbol = codes "        "; shares = 0 }

-- the order under a reference, or that there is none, where one was had before or not
abbrev pub found_line : Option Order → Bool → ℕ → List ℕ
found_line (Some found) spent reference = order_line found
found_line None true reference = codes "no order " ++ decimal reference ++ codes " spent\n"
found_line None false reference = codes "no order " ++ decimal reference ++ codes "\n"

abbrev pub order_before : World → ℕ → ℕ → List ℕ
order_before w locate reference =
    found_line (order w locate reference) (is_spent w locate reference) reference

-- whether a payload is a trade of an order that isn't displayed
abbrev pub is_trade : Shape → Bool
is_trade (Known (Trade head m)) = true
is_trade other = false

-- the references by which a payload names orders; that of such a trade is none
abbrev pub orders_in : Shape → List ℕ
orders_in shape = if is_trade shape then [] else references_by shape

-- references, each once
abbrev pub once : List ℕ → List ℕ
once [] = []
once (first ∷ others) = first ∷ filter (λ other. not (other == first)) (once others)

-- the orders that a payload names
abbrev pub orders_before : World → ℕ → List ℕ → List ℕ
orders_before w locate payload =
    flat_map (order_before w locate) (once (orders_in (shape_of payload)))

-- ---- the earlier messages about it

-- the match number of a trade, or of one that is broken
abbrev pub match_in : Msg → Option ℕ
match_in (Execute head m) = Some m.match_no
match_in (ExecutePrice head m) = Some m.match_no
match_in (Trade head m) = Some m.match_no
match_in (Cross head m) = Some m.match_no
match_in (Broken head m) = Some m.match_no
match_in other = None

-- whether it is this one
abbrev pub is_match : ℕ → Option ℕ → Bool
is_match number None = false
is_match number (Some own) = own == number

abbrev pub has_match : ℕ → Shape → Bool
has_match number (Known m) = is_match number (match_in m)
has_match number other = false

-- whether a payload names an order by a reference
abbrev pub names : Shape → ℕ → Bool
names shape reference = list_any (λ named. named == reference) (orders_in shape)

-- whether two payloads name an order by the same reference
abbrev pub name_one_order : Shape → Shape → Bool
name_one_order shape earlier = list_any (names earlier) (orders_in shape)

-- the match number of the trade that a payload breaks
abbrev pub break_in : Shape → Option ℕ
break_in (Known (Broken head m)) = Some m.match_no
break_in other = None

-- whether an earlier payload is about what a payload is about: one of its orders, or the trade that it breaks
abbrev pub is_about : Option ℕ → Shape → Shape → Bool
is_about None shape earlier = name_one_order shape earlier
is_about (Some number) shape earlier = has_match number earlier

-- the line of an earlier message, where it was applied and is about that: its number, and its line of the text
abbrev pub earlier_line : Shape → Outcome → ℕ → List ℕ → List ℕ
earlier_line shape Applied number payload =
    if is_about (break_in shape) shape (shape_of payload)
    then decimal number ++ codes " " ++ ended (payload_line payload) else []
earlier_line shape other number payload = []

abbrev pub earlier_lines : Shape → List OwnMessage → List ℕ
earlier_lines shape messages = flat_map (λ m. earlier_line shape m.outcome m.number m.payload) messages

-- ---- all lines

-- the position after a message, its line of the text, and why it was refused, where it was
abbrev pub message_lines : ℕ → Outcome → List ℕ → Before → List ℕ
message_lines n found payload before =
    position_words n (Some found) ++ codes "\n" ++ ended (payload_line payload)
    ++ refusal_lines found payload before

-- a message of a stock, by the stock's rows before it and the lines of the earlier messages
abbrev pub own_lines : World → ℕ → List ℕ → ℕ → Outcome → List ℕ → List ℕ
own_lines w locate earlier n found payload =
    message_lines n found payload (before_of w locate payload) ++ orders_before w locate payload ++ earlier

-- message n of a day
abbrev pub why_by : Part → List (List ℕ) → ℕ → List ℕ
why_by (Nowhere fixed) day n = message_lines n (outcome day n) (payload_at day n) nothing_before
why_by (Locate locate) day n =
    own_lines (after day (n - 1)) locate
    (earlier_lines (shape_of (payload_at day n)) (own_from (take (n - 1) day) locate 1))
    n (outcome day n) (payload_at day n)

abbrev pub why_text : List (List ℕ) → ℕ → List ℕ
why_text day n = why_by (part (payload_at day n)) day n

-- ---- the engine

-- the day has message n, and the text says what became of it, and why
pub record PrintsWhy (n : ℕ) (text : List ℕ) (day : List (List ℕ)) : Type 0 where
  pub some : 0 < n
  pub within : n ≤ length day
  pub printed : text ≡ why_text day n

-- a day was read up to message n: the number and the payload of its last message
pub record IsReadUpTo (day : List (List ℕ)) (n number : ℕ) (payload : List ℕ) : Type 0 where
  pub number_is : number ≡ length day
  pub payload_is : payload ≡ payload_at day (length day)
  pub comes_up : length day ≤ n

-- of a file whose message n has this payload, a message of a stock: the text, none where a file hasn't that message
abbrev pub IsOwnText : {A : Type 0} → ℕ → List ℕ → Option (Vec ℕ A) → List ℕ → Contents
    → Type 0
IsOwnText n payload None input file = n ≤ length file.payloads → ⊥
IsOwnText n payload (Some text) input file =
    n ≤ length file.payloads → payload ≡ payload_at file.payloads n
    → text.items ≡ why_text file.payloads n

-- why no text is made of a file. That it changed isn't said of one that gave the same twice.
abbrev pub RefusesWhy : ℕ → Limits → List ℕ → Contents → StockFault → Type 0
RefusesWhy n limits input file NoStock = ⊥
RefusesWhy n limits input file PastEnd = 0 < n → length file.payloads < n
RefusesWhy n limits input file Changed = ⊥
RefusesWhy n limits input file (OfEngine fault) = Exceeds limits fault input file

-- what became of message n of a file, and why
abbrev pub why : ℕ → Limits → Question
why n limits = record {
  place = After n;
  Answers = λ text file. PrintsWhy n text file.payloads;
  Refuses = RefusesWhy n limits;
}

-- ---- a law

-- the line of a fault is of the outcome of the message: there is one exactly where it was refused, and by that fault
abbrev pub FaultIsOutcomes : Type 0
FaultIsOutcomes =
    (day : List (List ℕ)) (n : ℕ) (fault : Fault) (before : Before) → outcome day n ≡ Refused fault
    → message_lines n (outcome day n) (payload_at day n) before
    ≡ position_words n (Some (Refused fault)) ++ codes "\n" ++ ended (payload_line (payload_at day n))
    ++ refusal_line fault (payload_at day n) before
