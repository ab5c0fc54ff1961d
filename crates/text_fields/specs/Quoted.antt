-- The quoted form of a field of text, as the disassembler and reports write it. It is of this project.
use Rattle.std.specs.Prelude.{ℕ, ◌==◌, Bool, if◌then◌else◌, List, [], ◌∷◌, ◌++◌, Option, Some, None, codes}
use Rattle.std.specs.List.{flat_map, list_all}
use Rattle.hex.specs.Hex.{encode_lower}
use Rattle.itch_text.specs.Characters.{space}
use Rattle.itch_text.specs.Values.{denotes_itself}

-- a byte is the space
abbrev pub is_space : ℕ → Bool
is_space byte = byte == space

-- a byte between quotes: itself, or `\x` and its two hexadecimal digits in lower case
abbrev pub escaped : ℕ → List ℕ
escaped byte = if denotes_itself byte then byte ∷ [] else codes "\\x" ++ encode_lower (byte ∷ [])

-- the bytes without the spaces that pad them on the right
abbrev pub unpadded : List ℕ → List ℕ
unpadded [] = []
unpadded (byte ∷ rest) = if list_all is_space (byte ∷ rest) then [] else byte ∷ unpadded rest

-- a field between quotes, without the spaces that pad it
abbrev pub quoted : List ℕ → List ℕ
quoted field = codes "\"" ++ flat_map escaped (unpadded field) ++ codes "\""

-- a byte between quotes, or `none` where there is none
abbrev pub quoted_byte : Option ℕ → List ℕ
quoted_byte None = codes "none"
quoted_byte (Some byte) = quoted (byte ∷ [])
