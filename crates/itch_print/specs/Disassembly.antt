-- The one text that the disassembler writes for a file: a line for each payload, and then the file's end. It is of this
-- project.
use Rattle.std.specs.Prelude.{ℕ, ◌-◌, ◌==◌, Bool, true, false, if◌then◌else◌, List, [], ◌∷◌, ◌++◌, length, map, drop, take, slice_index, codes, decimal, Option, Some, None}
use Rattle.std.specs.List.{flat_map}
use Rattle.hex.specs.Hex.{encode_lower}
use Rattle.byte_strings.specs.Bytes.{AreBytes}
use Rattle.binaryfile.specs.Entries.{Contents, Splits}
use Rattle.itch_layouts.specs.Layouts.{Field, Layout, Value, Number, Bytes, fields, layout_of_kind, value_at}
use Rattle.itch_text.specs.Text.{Text}
use Rattle.text_fields.specs.Quoted.{quoted}

-- a number in decimal digits without leading zeros, or text between quotes
abbrev pub value_text : Value → List ℕ
value_text (Number n) = decimal n
value_text (Bytes bytes) = quoted bytes

-- a field of a payload: its name, `=` and its value
abbrev pub field_text : List ℕ → Field → List ℕ
field_text payload field = field.name ++ codes "=" ++ value_text (value_at payload field)

-- the fields of a payload, one space before each
abbrev pub field_texts : List ℕ → List Field → List ℕ
field_texts payload fs = flat_map (λ field. codes " " ++ field_text payload field) fs

-- a message: its mnemonic and its fields
abbrev pub message_line : List ℕ → Layout → List ℕ
message_line payload layout = layout.mnemonic ++ field_texts payload (fields layout)

-- a name, and bytes in hexadecimal digits of lower case
abbrev pub hex_line : List ℕ → List ℕ → List ℕ
hex_line name bytes = name ++ codes " " ++ encode_lower bytes

-- the line of a payload by the layout of its type, if it has one
abbrev pub line_by : List ℕ → Option Layout → List ℕ
line_by payload None = hex_line (codes "raw") payload
line_by payload (Some layout) =
    if length payload == layout.size then message_line payload layout else hex_line (codes "raw") payload

-- a payload whose type has a layout, and which has its size, is written field by field, any other by its bytes
abbrev pub payload_line : List ℕ → List ℕ
payload_line payload = line_by payload (layout_of_kind (slice_index payload 0))

-- the end marker and the bytes after it, or what is less than a whole entry
abbrev pub end_lines : Bool → List ℕ → List (List ℕ)
end_lines true [] = codes "end" ∷ []
end_lines true (b ∷ bs) = codes "end" ∷ hex_line (codes "rest") (b ∷ bs) ∷ []
end_lines false [] = []
end_lines false (b ∷ bs) = hex_line (codes "cut") (b ∷ bs) ∷ []

-- a line, ended by a line feed
abbrev pub ended : List ℕ → List ℕ
ended line = line ++ codes "\n"

-- the text of a file with these contents
unfoldable pub text_of : Contents → List ℕ
text_of contents =
    flat_map ended (map payload_line contents.payloads ++ end_lines contents.marked contents.tail)

-- the lines of the messages of a file with these contents from number first to number last, as its text has them
unfoldable pub lines_between : Contents → ℕ → ℕ → List ℕ
lines_between contents first last =
    flat_map ended (map payload_line (drop (first - 1) (take last contents.payloads)))

-- the text that is written for a file denotes the file's bytes, whatever they are
abbrev pub DisassemblyDenotes : Type 0
DisassemblyDenotes =
    (bytes : List ℕ) (contents : Contents) → AreBytes bytes → Splits bytes contents
    → Text (text_of contents) bytes
