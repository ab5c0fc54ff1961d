-- A file that is read segment by segment. All is of this project.
use Rattle.std.specs.Prelude.{◌≡◌, ◌+◌, ◌<◌, ◌≤◌, ◌^◌, ◌++◌, ℕ, Bool, true, false, List, [], length, Option}
use Rattle.std.specs.Io.KnownBytes.{Consumes}
use Rattle.byte_strings.specs.Bytes.{AreBytes}
use Rattle.binaryfile.specs.Devices.{GaveAll, GaveMore}
use Rattle.binaryfile.specs.Entries.{Contents, Splits}
use Rattle.binaryfile.specs.declared.load.LoadFault.{LoadFault}
use Rattle.binaryfile.specs.declared.load.LoadFault.TheVariants.{Memory, Read, TooManyBytes, TooManyMessages}
use Rattle.day_segments.specs.Segments.{carry_after}

-- how far a file was read: what is carried over to the next segment, how many bytes and messages were read, how many bytes
-- a segment takes, and how many the file may have
pub record Reading : Type 0 where
  pub carried : List ℕ
  pub given : ℕ
  pub messages : ℕ
  pub size : ℕ
  pub most : ℕ

-- no more than an entry is carried over, and each message took a byte at least; a segment takes this many bytes
pub record IsReader (carried : List ℕ) (given messages size most : ℕ) : Type 0 where
  pub short : length carried ≤ 2 ^ 16
  pub counted : messages + length carried ≤ given
  pub within : given ≤ most
  pub some : 0 < size
  pub small : size ≤ 2 ^ 30
  pub limited : most ≤ 2 ^ 40

-- what a file holds of which nothing was read
abbrev pub nothing_read : Contents
nothing_read = record { payloads = []; marked = false; tail = [] }

-- the tail of a file with a segment more: after an end marker all is tail
abbrev pub tail_after : Bool → List ℕ → List ℕ → List ℕ
tail_after true tail more = tail ++ more
tail_after false tail more = more

-- what a file holds that was read so far, with a segment more
abbrev pub followed_by : Contents → Contents → Contents
followed_by before segment = record {
  payloads = before.payloads ++ segment.payloads;
  marked = segment.marked;
  tail = tail_after before.marked before.tail segment.tail;
}

-- the reader gave so many bytes from the start on, which are split into these contents, and this is carried over to the
-- next segment
pub record IsReadTo (start now : Option (List ℕ)) (contents : Contents) (carried : List ℕ)
    (given : ℕ) : Type 0 where
  pub bytes : List ℕ
  pub gave : Consumes start now bytes
  pub are : AreBytes bytes
  pub split : Splits bytes contents
  pub carry_is : carried ≡ carry_after contents
  pub given_is : given ≡ length bytes

-- a file was read so far, and what was read of it are these contents
pub record HasRead (start now : Option (List ℕ)) (contents : Contents) (reading : Reading) : Type 0 where
  pub read : IsReadTo start now contents reading.carried reading.given
  pub messages_are : reading.messages ≡ length contents.payloads
  pub within : reading.given ≤ reading.most

-- the reader gave a whole file of no more than so many bytes, with these contents
pub record IsWholeFile (start now : Option (List ℕ)) (most : ℕ) (contents : Contents) : Type 0 where
  pub input : List ℕ
  pub gave : GaveAll start now input
  pub are : AreBytes input
  pub within : length input ≤ most
  pub split : Splits input contents

-- why a file that may have so many bytes and messages isn't read to its end
abbrev pub Stops : Option (List ℕ) → Option (List ℕ) → ℕ → ℕ → LoadFault → Type 0
Stops start now bytes messages Memory = Unit {0}
Stops start now bytes messages Read = Unit {0}
Stops start now bytes messages TooManyBytes = GaveMore start now bytes
Stops start now bytes messages TooManyMessages =
    (contents : Contents) × IsWholeFile start now bytes contents × (messages < length contents.payloads)
