-- Where the entries of a file lie, and the index by which a payload is found.
use Rattle.std.specs.Prelude.{◌≡◌, ℕ, ◌*◌, ◌^◌, ◌<◌, Bool, List, length, take, slice_index}
use Rattle.std.specs.List.{flat_map}
use Rattle.byte_strings.specs.Bytes.{AreBytes}
use Rattle.binaryfile.specs.Entries.{entry}
use Rattle.binaryfile.specs.Scanned.{contents_of}
use Rattle.binaryfile.specs.declared.TheConstants.{STRIDE}

-- where the entry after the first n payloads begins
abbrev pub offset : List (List ℕ) → ℕ → ℕ
offset payloads n = length (flat_map entry (take n payloads))

-- the payloads of a byte string
abbrev pub payloads_of : List ℕ → List (List ℕ)
payloads_of bytes = (contents_of bytes).payloads

-- the index has the place of each entry whose number from 0 is a multiple of STRIDE
abbrev pub IsIndex : List ℕ → List ℕ → Type 0
IsIndex starts bytes = (k : ℕ) → k * STRIDE < length (payloads_of bytes)
    → (k < length starts) × (slice_index starts k ≡ offset (payloads_of bytes) (k * STRIDE))

-- the fields of a day agree with its bytes
pub record IsDay (bytes starts : List ℕ) (count end : ℕ) (marked : Bool) : Type 0 where
  pub are : AreBytes bytes
  pub count_is : count ≡ length (payloads_of bytes)
  pub few : count < 2 ^ 32
  pub end_is : end ≡ offset (payloads_of bytes) count
  pub marked_is : marked ≡ (contents_of bytes).marked
  pub index : IsIndex starts bytes
