-- One segment of a file. All is of this project.
use Rattle.std.specs.Prelude.{◌≡◌, ◌<◌, ◌≤◌, ◌++◌, ℕ, Bool, true, false, List, length, take, Option, Result, Ok, Err}
use Rattle.std.specs.Io.KnownBytes.{Consumes, IsAtEnd}
use Rattle.byte_strings.specs.Bytes.{AreBytes}
use Rattle.binaryfile.specs.Entries.{Contents, Splits, marker}
use Rattle.binaryfile.specs.declared.load.LoadFault.{LoadFault}

-- a buffer of this many bytes was filled with what the reader gave next: not to its end only where the reader has ended.
-- Where the reader failed, it gave no more bytes than fit.
abbrev pub Fills : Option (List ℕ) → Option (List ℕ) → List ℕ → ℕ → Result ℕ LoadFault → Type 0
Fills old new buffer room (Ok count) =
    (count ≤ room) × Consumes old new (take count buffer) × (count < room → IsAtEnd new)
Fills old new buffer room (Err fault) = (bytes : List ℕ) × Consumes old new bytes × (length bytes ≤ room)

-- these bytes are what is carried of a file, and then what the reader gave next, of which there was room for so many bytes:
-- fewer only where the reader has ended
pub record Follows (old new : Option (List ℕ)) (carried : List ℕ) (room : ℕ) (bytes : List ℕ) : Type 0 where
  pub given : List ℕ
  pub gave : Consumes old new given
  pub within : length given ≤ room
  pub ended : length given < room → IsAtEnd new
  pub are : bytes ≡ carried ++ given

-- what is carried over to the next segment: the end marker, or what is no whole entry
abbrev pub carry_by : Bool → List ℕ → List ℕ
carry_by true tail = marker true
carry_by false tail = tail

abbrev pub carry_after : Contents → List ℕ
carry_after contents = carry_by contents.marked contents.tail

-- a segment: what was carried over from the one before, and the bytes that the reader gave next, are split into these
-- contents. There is one such byte at least, no more than `most`, and as many as `size` says unless the reader has
-- ended.
pub record IsSegment (old new : Option (List ℕ)) (carried : List ℕ) (size most : ℕ)
    (contents : Contents) : Type 0 where
  pub bytes : List ℕ
  pub gave : Consumes old new bytes
  pub some : 0 < length bytes
  pub within : length bytes ≤ most
  pub fits : length bytes ≤ size
  pub full : length bytes < size → IsAtEnd new
  pub are : AreBytes bytes
  pub split : Splits (carried ++ bytes) contents
