-- What a reader gave and what a writer took, and whether they have failed. `old` and `new` are the bytes that the
-- reader has left, or that the writer has taken, before and after; they are `None` at a device that doesn't report
-- them.
use Rattle.std.specs.Prelude.{ℕ, ◌≤◌, ◌<◌, Bool, IsTrue, List, length, take, Option, Result, Ok, Err}
use Rattle.std.specs.Io.KnownBytes.{Consumes, IsAtEnd, Appends}
use Rattle.binaryfile.specs.declared.sink.WriteFault.{WriteFault}

-- A feed with its reader, or a sink with its writer, as contracts see it: the device, and whether it has failed.
pub record Device (D : Type 0) : Type 0 where
  pub device : D
  pub failed : Bool

-- The device has returned an error, or as a writer has taken none of some bytes.
abbrev pub HasFailed : {D : Type 0} → Device D → Type 0
HasFailed device = IsTrue device.failed

-- The reader gave these bytes, and then its end.
pub record GaveAll (old new : Option (List ℕ)) (bytes : List ℕ) : Type 0 where
  pub gave : Consumes old new bytes
  pub ended : IsAtEnd new

-- The reader gave more bytes than `most`.
pub record GaveMore (old new : Option (List ℕ)) (most : ℕ) : Type 0 where
  pub bytes : List ℕ
  pub gave : Consumes old new bytes
  pub more : most < length bytes

-- The reader gave at most `most` bytes.
pub record GaveUpTo (old new : Option (List ℕ)) (most : ℕ) : Type 0 where
  pub bytes : List ℕ
  pub gave : Consumes old new bytes
  pub within : length bytes ≤ most

-- The writer took all the bytes, or where it failed a prefix of the length that the fault says, and not all.
abbrev pub Sends : Option (List ℕ) → Option (List ℕ) → List ℕ → Result (Unit {0}) WriteFault → Type 0
Sends old new bytes (Ok _) = Appends old new bytes
Sends old new bytes (Err fault) = (fault.written < length bytes) × Appends old new (take fault.written bytes)
