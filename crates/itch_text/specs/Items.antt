-- What a line denotes. The lines are of this project.
use Rattle.std.specs.Prelude.{◌≡◌, ℕ, ◌<◌, ◌==◌, ◌⊎◌, Bool, true, false, List, [], ◌∷◌, length, codes, Ok, Some}
use Rattle.hex.specs.Hex.{decode_of}
use Rattle.binaryfile.specs.Entries.{entry, marker, IsPayload, IsPartial}
use Rattle.itch_layouts.specs.Layouts.{Layout, fields, Value, layout_of_mnemonic}
use Rattle.itch_layouts.specs.Encoding.{encoding}
use Rattle.itch_text.specs.Characters.{number_sign}
use Rattle.itch_text.specs.Words.{words}
use Rattle.itch_text.specs.Values.{FieldTexts}

-- nothing, an entry with a payload, the end marker, less than a whole entry, or bytes after the marker
pub data Item : Type 0 where
  Nothing : Item
  Entry : List ℕ → Item
  End : Item
  Cut : List ℕ → Item
  Rest : List ℕ → Item

-- the word begins with `#`
abbrev pub is_comment : List ℕ → Bool
is_comment [] = false
is_comment (b ∷ bs) = b == number_sign

-- the words of a comment
abbrev pub IsComment : List (List ℕ) → Type 0
IsComment [] = ⊥
IsComment (w ∷ ws) = is_comment w ≡ true

-- an even number of hexadecimal digits of either case, at least two, and their bytes
abbrev pub HexText : List ℕ → List ℕ → Type 0
HexText text bytes = (decode_of text ≡ Ok bytes) × (0 < length bytes)

-- a name, followed by the hexadecimal digits of the bytes
abbrev pub IsHexLine : List ℕ → List (List ℕ) → List ℕ → Type 0
IsHexLine name line bytes = (text : List ℕ) × (line ≡ name ∷ text ∷ []) × HexText text bytes

-- a mnemonic, and a word for each field of its layout, denote the payload that has the values of the words
pub record IsMessage (line : List (List ℕ)) (payload : List ℕ) : Type 0 where
  pub word : List ℕ
  pub layout : Layout
  pub texts : List (List ℕ)
  pub values : List Value
  pub known : layout_of_mnemonic word ≡ Some layout
  pub parts : line ≡ word ∷ texts
  pub denoted : FieldTexts (fields layout) texts values
  pub whole : payload ≡ layout.kind ∷ encoding (fields layout) values

-- what the words of a line denote
abbrev pub Denotes : List (List ℕ) → Item → Type 0
Denotes line Nothing = (line ≡ []) ⊎ IsComment line
Denotes line (Entry payload) =
    IsMessage line payload ⊎ (IsHexLine (codes "raw") line payload × IsPayload payload)
Denotes line End = line ≡ codes "end" ∷ []
Denotes line (Cut bytes) = IsHexLine (codes "cut") line bytes × IsPartial bytes
Denotes line (Rest bytes) = IsHexLine (codes "rest") line bytes

-- the line denotes the item
abbrev pub Line : List ℕ → Item → Type 0
Line line item = Denotes (words line) item

-- the bytes that an item adds to a file
abbrev pub item_bytes : Item → List ℕ
item_bytes Nothing = []
item_bytes (Entry payload) = entry payload
item_bytes End = marker true
item_bytes (Cut bytes) = bytes
item_bytes (Rest bytes) = bytes
