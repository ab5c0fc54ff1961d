-- What was read of a file of which a part may suffice. All is of this project.
use Rattle.std.specs.Prelude.{◌≡◌, ◌⊎◌, ◌<◌, ◌≤◌, ◌++◌, ℕ, IsTrue, List, [], length, Option}
use Rattle.std.specs.Io.KnownBytes.{Consumes, IsAtEnd}
use Rattle.byte_strings.specs.Bytes.{AreBytes}
use Rattle.binaryfile.specs.Entries.{Contents, Splits}
use Rattle.binaryfile.specs.declared.day.Limits.{Limits}
use Rattle.engine_rules.specs.declared.fault.ProgFault.{ProgFault}
use Rattle.engine_rules.specs.declared.fault.ProgFault.TheVariants.{Memory, Read, TooManyBytes, TooManyMessages}
use Rattle.itch_table.specs.Projection.{payload_at}
use Rattle.itch_show.specs.Places.{ComesUpTo, is_reached, up_to}
use Rattle.itch_show.specs.declared.place.Place.{Place}

-- a file begins with these bytes, and is no more than these where the reader has ended after them
pub record BeginsWith (given : List ℕ) (now : Option (List ℕ)) (input : List ℕ) : Type 0 where
  pub rest : List ℕ
  pub whole : given ++ rest ≡ input
  pub ended : IsAtEnd now → rest ≡ []

-- of each file that begins with what the reader gave this holds, by its bytes and its contents
pub record GavePart (old new : Option (List ℕ)) (Holds : List ℕ → Contents → Type 0) : Type 0 where
  pub given : List ℕ
  pub gave : Consumes old new given
  pub each : (input : List ℕ) (file : Contents) → AreBytes input → Splits input file
      → BeginsWith given new input → Holds input file

-- a file was read up to a place within the limits: its messages before the place are a day of which this holds, with so many
-- messages, and its last one has this payload
pub record HasReadUpTo (old new : Option (List ℕ)) (limits : Limits) (place : Place) (number : ℕ)
    (payload : List ℕ) (Holds : List (List ℕ) → Type 0) : Type 0 where
  pub day : List (List ℕ)
  pub part : GavePart old new (λ _ file. up_to place file.payloads ≡ day)
  pub few : length day ≤ limits.messages
  pub comes_up : ComesUpTo place day
  pub number_is : number ≡ length day
  pub payload_is : payload ≡ payload_at day (length day)
  pub holds : Holds day

-- the reader gave these last bytes, no more than so many, after others whose messages don't come as far as a place
pub record NeedsLast (place : Place) (old new : Option (List ℕ)) (size : ℕ) : Type 0 where
  pub between : Option (List ℕ)
  pub first : List ℕ
  pub gave_first : Consumes old between first
  pub last : List ℕ
  pub gave_last : Consumes between new last
  pub fits : length last ≤ size
  pub contents : Contents
  pub split : Splits first contents
  pub comes_up : ComesUpTo place contents.payloads
  pub unreached : ¬ IsTrue (is_reached place (length contents.payloads))

-- the reader gave nothing, or all that it had, or no more than a segment after messages that don't come as far as a place
abbrev pub StopsAt : Place → ℕ → Option (List ℕ) → Option (List ℕ) → Type 0
StopsAt place segment old new = (new ≡ old) ⊎ (IsAtEnd new ⊎ NeedsLast place old new segment)

-- why a file isn't read up to a place: it has more bytes or messages than the limits say; out of memory and a failed device
-- say nothing of it
abbrev pub Exceeds : Limits → ProgFault → List ℕ → Contents → Type 0
Exceeds limits Memory input file = Unit {0}
Exceeds limits Read input file = Unit {0}
Exceeds limits TooManyBytes input file = limits.bytes < length input
Exceeds limits TooManyMessages input file = limits.messages < length file.payloads
Exceeds limits other input file = ⊥
