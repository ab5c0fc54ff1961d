-- What a run reads, writes and returns that writes of a file while it reads it. All is of this project.
use Rattle.std.specs.Prelude.{◌≡◌, ◌↔◌, ◌⊎◌, ℕ, ◌+◌, ◌-◌, ◌<◌, ◌≤◌, ◌^◌, List, length, ◌++◌, Option, Result, Ok, Err, IsErrOf}
use Rattle.std.specs.Io.KnownBytes.{Appends, Consumes, IsAtEnd}
use Rattle.byte_strings.specs.Bytes.{AreBytes}
use Rattle.binaryfile.specs.Devices.{Device, GaveAll, GaveUpTo, HasFailed}
use Rattle.binaryfile.specs.Entries.{Contents, Splits}
use Rattle.binaryfile.specs.Loading.{HasMoreMessages}
use Rattle.text_fields.specs.Prefixes.{IsPrefix}
use Rattle.engine_rules.specs.Runs.{Traffic, traffic_of}
use Rattle.engine_rules.specs.declared.fault.ProgFault.{ProgFault}
use Rattle.engine_rules.specs.declared.fault.ProgFault.TheVariants.{Memory, Read, TooManyBytes, TooManyMessages, Write, BadHex, Asm}

-- What may be written of a file that holds these contents: the texts that are right of it. Reading may stop where the
-- contents of the file's beginning suffice.
pub record Printer : Type 1 where
  pub IsText : Contents → List ℕ → Type 0
  pub Suffices : Contents → Type 0

-- What may hold of contents and of what was written of them.
abbrev pub Holding : Type 1
Holding = Contents → List ℕ → Type 0

-- What was written begins each right text of every file that begins with these bytes.
abbrev pub BeginsAll : Printer → List ℕ → List ℕ → Type 0
BeginsAll printer given written =
    (rest : List ℕ) (contents : Contents) (text : List ℕ) → AreBytes (given ++ rest)
    → Splits (given ++ rest) contents → printer.IsText contents text → IsPrefix written text

-- The reader ended after these bytes, and what was written begins a right text of their file.
pub record BeginsOne (printer : Printer) (after : Option (List ℕ)) (given written : List ℕ) : Type 0 where
  pub ended : IsAtEnd after
  pub contents : Contents
  pub split : Splits given contents
  pub text : List ℕ
  pub is_text : printer.IsText contents text
  pub begins : IsPrefix written text

-- What was written where a run stops at a fault. Only a write may fail after the reader has ended.
abbrev pub Begins : Printer → Option (List ℕ) → List ℕ → List ℕ → ProgFault → Type 0
Begins printer after given written Write =
    BeginsAll printer given written ⊎ BeginsOne printer after given written
Begins printer after given written fault = BeginsAll printer given written

-- The bytes that the reader gave show the fault. Out of memory and a failed device say nothing of them.
abbrev pub Shows : List ℕ → ProgFault → Type 0
Shows given Memory = Unit {0}
Shows given Read = Unit {0}
Shows given TooManyBytes = 2 ^ 40 < length given
Shows given TooManyMessages = HasMoreMessages given (2 ^ 32 - 1)
Shows given BadHex = ⊥
Shows given Write = Unit {0}
Shows given (Asm fault) = ⊥

-- The reader gave a whole input within the limits, which doesn't suffice before its end, and what was written is the text
-- with which its printing ended, and nothing else.
pub record PrintsWhole (printer : Printer) (Ended : Holding) (traffic : Traffic) : Type 0 where
  pub input : List ℕ
  pub contents : Contents
  pub gave : GaveAll traffic.left traffic.left_after input
  pub are : AreBytes input
  pub within : length input ≤ 2 ^ 40
  pub split : Splits input contents
  pub few : length contents.payloads ≤ 2 ^ 32 - 1
  pub unfinished : ¬ printer.Suffices contents
  pub text : List ℕ
  pub ended : Ended contents text
  pub wrote : Appends traffic.taken traffic.taken_after text

-- The reader gave these last bytes after others that don't suffice: so many bytes, and fewer only where the reader has
-- ended.
pub record NeedsLast (printer : Printer) (old new : Option (List ℕ)) (size : ℕ) : Type 0 where
  pub between : Option (List ℕ)
  pub first : List ℕ
  pub gave_first : Consumes old between first
  pub last : List ℕ
  pub gave_last : Consumes between new last
  pub fits : length last ≤ size
  pub full : length last < size → IsAtEnd new
  pub contents : Contents
  pub split : Splits first contents
  pub unfinished : ¬ printer.Suffices contents

-- The reader gave bytes that suffice, and what was written is the only right text of each file that begins with them. It
-- gave none, or no more than a segment after those that don't suffice.
pub record PrintsEnough (printer : Printer) (Printed : Holding) (segment : ℕ)
    (traffic : Traffic) : Type 0 where
  pub given : List ℕ
  pub contents : Contents
  pub gave : Consumes traffic.left traffic.left_after given
  pub split : Splits given contents
  pub suffices : printer.Suffices contents
  pub needed : (traffic.left_after ≡ traffic.left) ⊎ NeedsLast printer traffic.left traffic.left_after segment
  pub written : List ℕ
  pub printed : Printed contents written
  pub wrote : Appends traffic.taken traffic.taken_after written
  pub every : (rest : List ℕ) (contents : Contents) (text : List ℕ) → AreBytes (given ++ rest)
      → Splits (given ++ rest) contents → printer.IsText contents text → written ≡ text

-- The reader gave bytes that show the fault, and what was written is a beginning.
pub record StopsPrinting (printer : Printer) (traffic : Traffic) (fault : ProgFault) : Type 0 where
  pub given : List ℕ
  pub gave : Consumes traffic.left traffic.left_after given
  pub shows : Shows given fault
  pub written : List ℕ
  pub wrote : Appends traffic.taken traffic.taken_after written
  pub begins : Begins printer traffic.left_after given written fault

abbrev pub Ends : Printer → Holding → Holding → ℕ → Traffic
    → Result (Unit {0}) ProgFault → Type 0
Ends printer Printed Ended segment traffic (Ok _) =
    PrintsWhole printer Ended traffic ⊎ PrintsEnough printer Printed segment traffic
Ends printer Printed Ended segment traffic (Err fault) = StopsPrinting printer traffic fault

-- A run of the printer in segments of so many bytes, from its feed and its sink as they were to what they are after it.
-- `Printed` is what holds of the contents and of what was written where the contents suffice, and `Ended` where the file has
-- ended.
pub record Prints {R W : Type 0} (printer : Printer) (Printed Ended : Holding) (segment : ℕ)
    (left : R → Option (List ℕ)) (taken : W → Option (List ℕ))
    (feed fed : Device R) (sink sent : Device W) (result : Result (Unit {0}) ProgFault) : Type 0 where
  pub ends : Ends printer Printed Ended segment (traffic_of left taken feed fed sink sent) result
  -- Whatever the result, no more is taken from the reader than the limit and one byte.
  pub takes_at_most : GaveUpTo (left feed.device) (left fed.device) (2 ^ 40 + 1)
  -- The fault is Read exactly where the feed has failed, and Write only where the sink has.
  pub read : IsErrOf result Read ↔ HasFailed fed
  pub write : IsErrOf result Write → HasFailed sent
  -- A failed device stays as it is, and is not asked.
  pub feed_for_good : HasFailed feed → fed ≡ feed
  pub sink_for_good : HasFailed sink → sent ≡ sink
