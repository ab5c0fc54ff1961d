-- How the bytes of a file are split into entries (Nasdaq BinaryFILE). The end marker, and what stands after it or in
-- the place of a whole entry, are rules of this project.
use Rattle.std.specs.Prelude.{◌≡◌, ℕ, ◌+◌, ◌*◌, ◌^◌, ◌<◌, Bool, true, false, List, [], ◌∷◌, ◌++◌, length}
use Rattle.std.specs.List.{All, flat_map}
use Rattle.std.specs.Int.{w16, to_be_bytes}
use Rattle.byte_strings.specs.Bytes.{AreBytes}

-- A payload has 1 to 65,535 bytes.
abbrev pub IsPayload : List ℕ → Type 0
IsPayload payload = (0 < length payload) × (length payload < 2 ^ 16)

-- An entry is the length of its payload, as two bytes with the high one first, and then the payload.
abbrev pub entry : List ℕ → List ℕ
entry payload = to_be_bytes w16 (length payload) ++ payload

-- The end marker is a length of zero, where there is a marker.
abbrev pub marker : Bool → List ℕ
marker true = 0 ∷ 0 ∷ []
marker false = []

-- Less than a whole entry: nothing, one byte, or a length that says more than the bytes that follow it.
abbrev pub IsPartial : List ℕ → Type 0
IsPartial [] = Unit {0}
IsPartial (x ∷ []) = Unit {0}
IsPartial (high ∷ low ∷ rest) = length rest < 256 * high + low

-- What a file holds: its payloads in order, whether an end marker follows them, and the bytes after all that.
pub record Contents : Type 0 where
  pub payloads : List (List ℕ)
  pub marked : Bool
  pub tail : List ℕ

-- The bytes of a file with these contents.
abbrev pub bytes_of : Contents → List ℕ
bytes_of contents = flat_map entry contents.payloads ++ (marker contents.marked ++ contents.tail)

-- The bytes are those of the contents, and nothing that could be an entry or a marker is left over.
pub record Splits (bytes : List ℕ) (contents : Contents) : Type 0 where
  pub whole : bytes ≡ bytes_of contents
  pub each : All IsPayload contents.payloads
  pub partial : contents.marked ≡ false → IsPartial contents.tail

-- There is exactly one splitting of the bytes.
abbrev pub HasOneSplitting : List ℕ → Type 0
HasOneSplitting bytes =
    (one : Contents) × Splits bytes one × ((other : Contents) → Splits bytes other → other ≡ one)

-- Every string of bytes has exactly one splitting.
abbrev pub EachHasOneSplitting : Type 0
EachHasOneSplitting = (bytes : List ℕ) → AreBytes bytes → HasOneSplitting bytes
