-- The payload that a message is written as: its type, followed by the bytes of each value.
use Rattle.std.specs.Prelude.{◌≡◌, ℕ, zero, suc, ◌/◌, ◌%◌, ◌<◌, ◌^◌, List, [], ◌∷◌, ◌++◌, length}
use Rattle.byte_strings.specs.Bytes.{AreBytes}
use Rattle.itch_layouts.specs.Layouts.{Field, Form, Integer, Alpha, fields, Value, Number, Bytes}
use Rattle.itch_layouts.specs.Means.{layout_of, values_of}
use Rattle.itch_layouts.specs.declared.message.Msg.{Msg}

-- the bytes of a number at this width, the highest first
unfoldable pub digits : ℕ → ℕ → List ℕ
digits zero n = []
digits (suc width) n = n / 256 ^ width ∷ digits width (n % 256 ^ width)

-- the bytes of a value in a field of this width
abbrev pub encoded : ℕ → Value → List ℕ
encoded width (Number n) = digits width n
encoded width (Bytes bs) = bs

-- the bytes of the values of fields that follow one another
abbrev pub encoding : List Field → List Value → List ℕ
encoding [] vs = []
encoding (f ∷ fs) [] = []
encoding (f ∷ fs) (v ∷ vs) = encoded f.width v ++ encoding fs vs

-- the payload of a message
abbrev pub payload_of : Msg → List ℕ
payload_of m = (layout_of m).kind ∷ encoding (fields (layout_of m)) (values_of m)

-- a value fits a field of this form and width
abbrev pub FitsField : Form → ℕ → Value → Type 0
FitsField Integer width (Number n) = n < 256 ^ width
FitsField Alpha width (Bytes bs) = (length bs ≡ width) × AreBytes bs
FitsField Integer width (Bytes bs) = ⊥
FitsField Alpha width (Number n) = ⊥

-- there is one value for each field, and it fits
abbrev pub Fit : List Field → List Value → Type 0
Fit [] [] = Unit {0}
Fit (f ∷ fs) (v ∷ vs) = FitsField f.form f.width v × Fit fs vs
Fit [] (v ∷ vs) = ⊥
Fit (f ∷ fs) [] = ⊥

-- a message's values fit their fields
abbrev pub Fits : Msg → Type 0
Fits m = Fit (fields (layout_of m)) (values_of m)
