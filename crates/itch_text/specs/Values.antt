-- The texts of values and of fields. They are of this project; what a field holds is Nasdaq TotalView-ITCH 5.0,
-- "Data Types".
use Rattle.std.specs.Prelude.{◌≡◌, ℕ, ◌+◌, ◌-◌, ◌*◌, ◌^◌, ◌<◌, ◌≤◌, ◌==◌, ◌&&◌, not, nat_le, Bool, if◌then◌else◌, List, [], ◌∷◌, ◌++◌, length, replicate, codes, Option, Some, None}
use Rattle.std.specs.Str.Parse.{IsNumeral, digits_value}
use Rattle.hex.specs.Hex.{hex_digit_value}
use Rattle.itch_layouts.specs.Layouts.{Field, Form, Integer, Alpha, Value, Number, Bytes}
use Rattle.itch_text.specs.Characters.{space, quote_mark, backslash, small_x, tilde}

-- a byte from the space to the tilde that is neither the quote nor the backslash denotes itself
abbrev pub denotes_itself : ℕ → Bool
denotes_itself byte =
    nat_le space byte && nat_le byte tilde && not (byte == quote_mark) && not (byte == backslash)

-- the byte of two hexadecimal digits
abbrev pub byte_of : Option ℕ → Option ℕ → Option ℕ
byte_of (Some high) (Some low) = Some (high * 16 + low)
byte_of (Some high) None = None
byte_of None low = None

abbrev pub with_first : Option ℕ → Option (List ℕ) → Option (List ℕ)
with_first (Some b) (Some bs) = Some (b ∷ bs)
with_first (Some b) None = None
with_first None bs = None

-- the bytes that a text between quotes denotes: `\x` and two hexadecimal digits of either case denote the byte of the
-- digits, and each other byte must denote itself
unfoldable pub unescaped : List ℕ → Option (List ℕ)
unescaped [] = Some []
unescaped (b ∷ []) = if denotes_itself b then Some (b ∷ []) else None
unescaped (b ∷ c ∷ []) = if denotes_itself b then with_first (Some b) (unescaped (c ∷ [])) else None
unescaped (b ∷ c ∷ d ∷ []) = if denotes_itself b then with_first (Some b) (unescaped (c ∷ d ∷ [])) else None
unescaped (b ∷ c ∷ d ∷ e ∷ rest) =
    if denotes_itself b then with_first (Some b) (unescaped (c ∷ d ∷ e ∷ rest))
    else (if (b == backslash) && (c == small_x)
    then with_first (byte_of (hex_digit_value d) (hex_digit_value e)) (unescaped rest) else None)

-- the bytes, filled up with spaces on the right to this width
abbrev pub padded : ℕ → List ℕ → List ℕ
padded width bytes = bytes ++ replicate (width - length bytes) space

-- the text of a field of text of this width: at most that many bytes between quotes
pub record AlphaText (width : ℕ) (text bytes : List ℕ) : Type 0 where
  pub inner : List ℕ
  pub short : List ℕ
  pub between : text ≡ codes "\"" ++ inner ++ codes "\""
  pub denoted : unescaped inner ≡ Some short
  pub within : length short ≤ width
  pub filled : bytes ≡ padded width short

-- the text of a number: one to twenty decimal digits
abbrev pub NumberText : List ℕ → ℕ → Type 0
NumberText text n = IsNumeral 10 text × (length text ≤ 20) × (digits_value 10 text ≡ n)

-- the text of a value in a field of this form and width: a number that fits, or bytes between quotes
abbrev pub ValueText : Form → ℕ → List ℕ → Value → Type 0
ValueText Integer width text (Number n) = NumberText text n × (n < 256 ^ width)
ValueText Alpha width text (Bytes bytes) = AlphaText width text bytes
ValueText Integer width text (Bytes bytes) = ⊥
ValueText Alpha width text (Number n) = ⊥

-- a field: its name, `=` and its value
abbrev pub FieldText : Field → List ℕ → Value → Type 0
FieldText field word value =
    (text : List ℕ) × (word ≡ field.name ++ codes "=" ++ text) × ValueText field.form field.width text value

-- all the fields in their order, a word each
abbrev pub FieldTexts : List Field → List (List ℕ) → List Value → Type 0
FieldTexts [] [] [] = Unit {0}
FieldTexts (f ∷ fs) (w ∷ ws) (v ∷ vs) = FieldText f w v × FieldTexts fs ws vs
FieldTexts _ _ _ = ⊥
