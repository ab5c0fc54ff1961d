-- The values of fields as the program has them, and what it appends for the words of fields.
use Rattle.std.specs.Prelude.{◌≡◌, ℕ, ◌^◌, ◌<◌, List, ◌++◌, length, take, Option, Some, None, Result, Ok, Err, option_map}
use Rattle.std.specs.Borrow.{Bor}
use Rattle.itch_layouts.specs.Layouts.{Field, Value, Number, Bytes}
use Rattle.itch_layouts.specs.Encoding.{encoded, encoding}
use Rattle.itch_text.specs.Words.{words}
use Rattle.itch_text.specs.Parsing.{field_in, values_in}
use Rattle.itch_text.specs.declared.fields.ParsedValue.{ParsedValue}
use Rattle.itch_text.specs.declared.fields.ParsedValue.TheVariants.{Number as NumberValue, Text as TextValue}
use Rattle.itch_text.specs.declared.fault.LineError.{LineError}
use Rattle.itch_text.specs.declared.fault.LineError.TheVariants.{Memory, Wrong}
use Rattle.itch_text.specs.declared.fault.LineFault.TheVariants.{Field as WrongField}

-- the value in a field of this width
abbrev pub as_value : ℕ → ParsedValue → Value
as_value width (NumberValue n) = Number n
as_value width (TextValue bytes) = Bytes (take width bytes)

-- the value fills a field of this width
abbrev pub Fills : ℕ → Value → Type 0
Fills width (Number n) = n < 256 ^ width
Fills width (Bytes bytes) = length bytes ≡ width

-- what was there, followed by the bytes, if there are any
abbrev pub extended : List ℕ → Option (List ℕ) → Option (List ℕ)
extended old None = None
extended old (Some bytes) = Some (old ++ bytes)

-- the bytes of a field that a word denotes
abbrev pub field_bytes : Field → List ℕ → Option (List ℕ)
field_bytes field word = option_map (encoded field.width) (field_in field word)

-- the bytes of fields that words denote
abbrev pub fields_bytes : List Field → List (List ℕ) → Option (List ℕ)
fields_bytes fs ws = option_map (encoding fs) (values_in fs ws)

-- the bytes were appended; or there are none, which is wrong; or memory was refused
abbrev pub Puts : List ℕ → List ℕ → Option (List ℕ) → Result (Unit {0}) LineError → Type 0
Puts old new bytes (Ok _) = extended old bytes ≡ Some new
Puts old new bytes (Err Memory) = Unit {0}
Puts old new bytes (Err (Wrong fault)) = (fault ≡ WrongField) × (bytes ≡ None)

-- The same for fields that others may follow: what was there, followed by the bytes of all, is what is there now,
-- followed by the bytes of the others.
abbrev pub PutsFields : List ℕ → List ℕ → List Field → List (List ℕ)
    → Result (Bor (List ℕ)) LineError → Type 0
PutsFields old new fs ws (Ok rest) =
    (others : List Field)
    → extended old (fields_bytes (fs ++ others) ws) ≡ extended new (fields_bytes others (words rest.now))
PutsFields old new fs ws (Err Memory) = Unit {0}
PutsFields old new fs ws (Err (Wrong fault)) =
    (fault ≡ WrongField) × ((others : List Field) → fields_bytes (fs ++ others) ws ≡ None)
