-- What words denote, as functions. The contracts of this crate's own functions cite them; callers see the relations of
-- Values and Items, which agree with them.
use Rattle.std.specs.Prelude.{ℕ, ◌+◌, ◌*◌, ◌-◌, ◌^◌, ◌==◌, ◌&&◌, nat_le, nat_lt, Bool, true, if◌then◌else◌, List, [], ◌∷◌, ◌++◌, length, take, drop, slice_index, codes, Option, Some, None, option_map, Result, Ok, Err}
use Rattle.std.specs.List.{list_all}
use Rattle.std.specs.Str.Parse.{digits_value}
use Rattle.std.specs.Char.{is_digit}
use Rattle.hex.specs.Hex.{decode_of}
use Rattle.itch_layouts.specs.Layouts.{Field, Form, Integer, Alpha, Value, Number, Bytes, fields}
use Rattle.itch_layouts.specs.Encoding.{encoding}
use Rattle.itch_text.specs.Characters.{quote_mark}
use Rattle.itch_text.specs.Words.{is_word}
use Rattle.itch_text.specs.Values.{unescaped, padded}
use Rattle.itch_text.specs.Items.{Item, Entry, End, Cut, Rest, item_bytes}
use Rattle.itch_text.specs.Faults.{Name, Message, RawName, EndName, CutName, RestName}

-- what follows a prefix, if the text begins with it
abbrev pub after_prefix : List ℕ → List ℕ → Option (List ℕ)
after_prefix [] text = Some text
after_prefix (b ∷ prefix) [] = None
after_prefix (b ∷ prefix) (c ∷ text) = if b == c then after_prefix prefix text else None

-- the number of one to twenty decimal digits
unfoldable pub number_in : List ℕ → Option ℕ
number_in text =
    if nat_lt 0 (length text) && (nat_le (length text) 20 && list_all (λ c. is_digit c 10) text)
    then Some (digits_value 10 text) else None

-- what stands between the quotes that a text begins and ends with
unfoldable pub between_quotes : List ℕ → Option (List ℕ)
between_quotes text =
    if nat_le 2 (length text)
    && (slice_index text 0 == quote_mark && slice_index text (length text - 1) == quote_mark)
    then Some (take (length text - 2) (drop 1 text)) else None

-- the number, if it fits a field of this width
abbrev pub fitting : ℕ → Option ℕ → Option Value
fitting width None = None
fitting width (Some n) = if nat_lt n (256 ^ width) then Some (Number n) else None

-- the bytes filled up to a width, if they are no more than that
abbrev pub padded_within : ℕ → Option (List ℕ) → Option Value
padded_within width None = None
padded_within width (Some short) =
    if nat_le (length short) width then Some (Bytes (padded width short)) else None

-- the value of what stands between quotes
abbrev pub alpha_in : ℕ → Option (List ℕ) → Option Value
alpha_in width None = None
alpha_in width (Some inner) = padded_within width (unescaped inner)

-- the value of a text in a field of this form and width
abbrev pub value_in : Form → ℕ → List ℕ → Option Value
value_in Integer width text = fitting width (number_in text)
value_in Alpha width text = alpha_in width (between_quotes text)

-- the value of what follows the name and `=`
abbrev pub value_after_prefix : Field → Option (List ℕ) → Option Value
value_after_prefix field None = None
value_after_prefix field (Some text) = value_in field.form field.width text

-- the value of a word in a field
unfoldable pub field_in : Field → List ℕ → Option Value
field_in field word = value_after_prefix field (after_prefix (field.name ++ codes "=") word)

-- one value more
abbrev pub with_value : Option Value → Option (List Value) → Option (List Value)
with_value (Some v) (Some vs) = Some (v ∷ vs)
with_value (Some v) None = None
with_value None vs = None

-- the values of the words in the fields, if there is one word for each
abbrev pub values_in : List Field → List (List ℕ) → Option (List Value)
values_in [] [] = Some []
values_in [] (w ∷ ws) = None
values_in (f ∷ fs) [] = None
values_in (f ∷ fs) (w ∷ ws) = with_value (field_in f w) (values_in fs ws)

-- what was decoded, if it is at least one byte
abbrev pub some_bytes : {E : Type 0} → Result (List ℕ) E → Option (List ℕ)
some_bytes (Ok []) = None
some_bytes (Ok (b ∷ bs)) = Some (b ∷ bs)
some_bytes (Err e) = None

-- the bytes of the hexadecimal digits of a word, at least one
unfoldable pub bytes_in : List ℕ → Option (List ℕ)
bytes_in word = some_bytes (decode_of word)

-- the bytes of the hexadecimal digits of the only word
abbrev pub hex_in : List (List ℕ) → Option (List ℕ)
hex_in [] = None
hex_in (w ∷ []) = bytes_in w
hex_in (w ∷ x ∷ ws) = None

-- the bytes are less than a whole entry
abbrev pub is_partial : List ℕ → Bool
is_partial [] = true
is_partial (x ∷ []) = true
is_partial (high ∷ low ∷ rest) = nat_lt (length rest) (256 * high + low)

-- what there is, if it passes the test
abbrev pub when : {X : Type 0} → (X → Bool) → Option X → Option X
when test None = None
when test (Some x) = if test x then Some x else None

-- a payload's length fits two bytes
abbrev pub is_short : List ℕ → Bool
is_short payload = nat_lt (length payload) (2 ^ 16)

-- the item that a name and the words after it denote
abbrev pub item_in : Name → List (List ℕ) → Option Item
item_in (Message layout) ws =
    option_map (λ vs. Entry (layout.kind ∷ encoding (fields layout) vs)) (values_in (fields layout) ws)
item_in RawName ws = option_map Entry (when is_short (hex_in ws))
item_in EndName [] = Some End
item_in EndName (w ∷ ws) = None
item_in CutName ws = option_map Cut (when is_partial (hex_in ws))
item_in RestName ws = option_map Rest (hex_in ws)

-- the bytes of the item that a name and the words after it denote
abbrev pub named_bytes : Name → List (List ℕ) → Option (List ℕ)
named_bytes name ws = option_map item_bytes (item_in name ws)

-- the words, after this one if it is a word
abbrev pub kept : List ℕ → List (List ℕ) → List (List ℕ)
kept w ws = if is_word w then w ∷ ws else ws
