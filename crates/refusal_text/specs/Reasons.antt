-- Why a message is refused, in words, with its numbers and what its stock had before it. The words are of this project; each
-- line ends with a line feed, and its numbers are decimal.
use Rattle.std.specs.Prelude.{ℕ, List, [], ◌∷◌, ◌++◌, length, codes, decimal, slice_index_or}
use Rattle.std.specs.Option.{unwrap_or}
use Rattle.itch_layouts.specs.Layouts.{size_of}
use Rattle.itch_layouts.specs.Means.{fields_of}
use Rattle.itch_layouts.specs.Shapes.{shape_of}
use Rattle.itch_layouts.specs.declared.message.Msg.{Msg}
use Rattle.itch_layouts.specs.declared.message.Msg.TheVariants.{Directory, Trading, Regsho, Participant, Collar, Operational, Add, AddMpid, Execute, ExecutePrice, Cancel, Delete, Replace, Trade, Cross, Broken, Imbalance, Retail}
use Rattle.itch_layouts.specs.declared.shape.Shape.{Shape}
use Rattle.itch_layouts.specs.declared.shape.Shape.TheVariants.{Known}
use Rattle.itch_table.specs.declared.outcome.Fault.{Fault}
use Rattle.itch_table.specs.declared.outcome.Fault.TheVariants.{WrongLength, NoDirectory, StockDiffers, LocateTaken, ReferenceInUse, ReferenceUnknown, BadSide, ZeroShares, TooManyShares, BadPrintable, NoTrade, ReferenceSpent}
use Rattle.itch_table.specs.declared.outcome.Outcome.{Outcome}
use Rattle.itch_table.specs.declared.outcome.Outcome.TheVariants.{Refused}
use Rattle.itch_table.specs.Fault.{number_of}
use Rattle.text_fields.specs.Quoted.{quoted}
use Rattle.refusal_text.specs.declared.before.Before.{Before}

-- ---- what checks look at in a message. Where a message has no such field, no check of it looks there.

-- the stock that it names
abbrev pub stock_in : Msg → List ℕ
stock_in (Directory head m) = m.stock
stock_in (Trading head m) = m.stock
stock_in (Regsho head m) = m.stock
stock_in (Participant head m) = m.stock
stock_in (Collar head m) = m.stock
stock_in (Operational head m) = m.stock
stock_in (Add head m) = m.stock
stock_in (AddMpid head m) = m.stock
stock_in (Trade head m) = m.stock
stock_in (Cross head m) = m.stock
stock_in (Imbalance head m) = m.stock
stock_in (Retail head m) = m.stock
stock_in other = codes "        "

-- the reference that a new order is to have
abbrev pub new_reference_in : Msg → ℕ
new_reference_in (Add head m) = m.reference
new_reference_in (AddMpid head m) = m.reference
new_reference_in (Replace head m) = m.new_reference
new_reference_in other = 0

-- the reference of the order that it changes
abbrev pub reference_in : Msg → ℕ
reference_in (Execute head m) = m.reference
reference_in (ExecutePrice head m) = m.reference
reference_in (Cancel head m) = m.reference
reference_in (Delete head m) = m.reference
reference_in (Replace head m) = m.reference
reference_in other = 0

-- the shares that it takes off an order
abbrev pub shares_in : Msg → ℕ
shares_in (Execute head m) = m.shares
shares_in (ExecutePrice head m) = m.shares
shares_in (Cancel head m) = m.shares
shares_in other = 0

-- what it does with them
abbrev pub deed_of : Msg → List ℕ
deed_of (Cancel head m) = codes " shares cancelled of order "
deed_of other = codes " shares executed of order "

-- the byte of a side
abbrev pub side_in : Msg → ℕ
side_in (Add head m) = m.side
side_in (AddMpid head m) = m.side
side_in (Trade head m) = m.side
side_in other = 0

-- the byte that says whether an execution is printed
abbrev pub printable_in : Msg → ℕ
printable_in (ExecutePrice head m) = m.printable
printable_in other = 0

-- the match number of a trade that it breaks
abbrev pub broken_in : Msg → ℕ
broken_in (Broken head m) = m.match_no
broken_in other = 0

-- ---- words

-- the name of a fault
abbrev pub fault_name : Fault → List ℕ
fault_name WrongLength = codes "WrongLength"
fault_name NoDirectory = codes "NoDirectory"
fault_name StockDiffers = codes "StockDiffers"
fault_name LocateTaken = codes "LocateTaken"
fault_name ReferenceInUse = codes "ReferenceInUse"
fault_name ReferenceUnknown = codes "ReferenceUnknown"
fault_name BadSide = codes "BadSide"
fault_name ZeroShares = codes "ZeroShares"
fault_name TooManyShares = codes "TooManyShares"
fault_name BadPrintable = codes "BadPrintable"
fault_name NoTrade = codes "NoTrade"
fault_name ReferenceSpent = codes "ReferenceSpent"

-- that a message names one stock, and its locate code has another
abbrev pub other_stock : Msg → Before → List ℕ
other_stock m before =
    codes "stock " ++ quoted (stock_in m) ++ codes ", and locate code "
    ++ decimal (fields_of m).head.locate ++ codes " is " ++ quoted before.symbol

-- that a byte isn't one of two
abbrev pub neither : List ℕ → ℕ → List ℕ → List ℕ
neither field byte others = field ++ quoted (byte ∷ []) ++ codes ", which is neither " ++ others

-- why a message is refused that has its type's length
abbrev pub reason : Fault → Msg → Before → List ℕ
reason WrongLength m before = []
reason NoDirectory m before =
    codes "locate code " ++ decimal (fields_of m).head.locate ++ codes " has no directory message before it"
reason StockDiffers m before = other_stock m before
reason LocateTaken m before = other_stock m before
reason ReferenceInUse m before = codes "order " ++ decimal (new_reference_in m) ++ codes " lives"
reason ReferenceUnknown m before = codes "no order " ++ decimal (reference_in m) ++ codes " lives"
reason BadSide m before = neither (codes "side ") (side_in m) (codes "\"B\" nor \"S\"")
reason ZeroShares m before = codes "order " ++ decimal (new_reference_in m) ++ codes " would have no shares"
reason TooManyShares m before =
    decimal (shares_in m) ++ deed_of m ++ decimal (reference_in m) ++ codes ", which has "
    ++ decimal before.shares
reason BadPrintable m before = neither (codes "printable ") (printable_in m) (codes "\"Y\" nor \"N\"")
reason NoTrade m before = codes "no unbroken trade has match number " ++ decimal (broken_in m)
reason ReferenceSpent m before =
    codes "an earlier order had reference " ++ decimal (new_reference_in m)

-- the type of a payload: its first byte
abbrev pub kind_in : List ℕ → ℕ
kind_in payload = slice_index_or payload 0 0

-- why a payload is refused that hasn't its type's length
abbrev pub wrong_length : List ℕ → List ℕ
wrong_length payload =
    codes "a message of type " ++ (kind_in payload ∷ []) ++ codes " has "
    ++ decimal (unwrap_or (size_of (kind_in payload)) 0) ++ codes " bytes, and this one "
    ++ decimal (length payload)

-- why a payload is refused, by its shape
abbrev pub reason_by : Shape → Fault → List ℕ → Before → List ℕ
reason_by (Known m) fault payload before = reason fault m before
reason_by other fault payload before = wrong_length payload

-- the line of a refusal: the fault's number and its name, and why
abbrev pub refusal_line : Fault → List ℕ → Before → List ℕ
refusal_line fault payload before =
    codes "F" ++ decimal (number_of fault) ++ codes " " ++ fault_name fault ++ codes ": "
    ++ reason_by (shape_of payload) fault payload before ++ codes "\n"

-- this line where a payload was refused
abbrev pub refusal_lines : Outcome → List ℕ → Before → List ℕ
refusal_lines (Refused fault) payload before = refusal_line fault payload before
refusal_lines other payload before = []
