-- A day file that is replayed while it is read. All is of this project.
use Rattle.std.specs.Prelude.{◌≡◌, ◌↔◌, ◌+◌, ◌<◌, ◌≤◌, ◌++◌, ℕ, Bool, true, false, IfErr, IfOk, IsErrOf, List, OnOk, Option, Result, count_by, length}
use Rattle.std.specs.declared.alloc.AllocError.{AllocError}
use Rattle.binaryfile.specs.Devices.{Device, GaveUpTo, HasFailed}
use Rattle.binaryfile.specs.Entries.{Contents}
use Rattle.binaryfile.specs.declared.load.LoadFault.{LoadFault}
use Rattle.binaryfile.specs.declared.load.LoadFault.TheVariants.{Read}
use Rattle.day_segments.specs.Reading.{HasRead, IsWholeFile, Reading, Stops}
use Rattle.itch_table.specs.After.{outcomes}
use Rattle.day_replay.specs.Summaries.{IsSummary, is_passed}
use Rattle.day_replay.specs.Dealing.{Dealt, IsDealt}
use Rattle.day_replay.specs.Replays.{HasReplayed, ReplayState}
use Rattle.file_replay.specs.declared.file_end.FileEnd.{FileEnd}
use Rattle.file_replay.specs.declared.replaying.FileSummary.{FileSummary}

-- how far a file was read, how it ends so far, and how many messages it may have
pub record FileReading : Type 0 where
  pub reading : Reading
  pub end : FileEnd
  pub limit : ℕ

-- a file was read so far, and these are its contents as far as it was read
pub record IsSoFar (start now : Option (List ℕ)) (contents : Contents) (file : FileReading) : Type 0 where
  pub read : HasRead start now contents file.reading
  pub few : length contents.payloads ≤ file.limit
  pub marked_is : file.end.marked ≡ contents.marked
  pub tail_is : file.end.tail ≡ length contents.tail

-- a file of which these were the contents was read further, and the messages that came since are dealt
pub record IsFurther (start now : Option (List ℕ)) (before : Contents) (file : FileReading)
    (dealt : Dealt) : Type 0 where
  pub contents : Contents
  pub so_far : IsSoFar start now contents file
  pub payloads : List (List ℕ)
  pub follow : contents.payloads ≡ before.payloads ++ payloads
  pub dealt_is : IsDealt (length before.payloads) payloads dealt

-- what comes after these contents of a file: messages that are dealt, or its end
abbrev pub Next : Option (List ℕ) → Option (List ℕ) → Contents → FileReading → Dealt → Bool → Type 0
Next start now before file dealt true = IsFurther start now before file dealt
Next start now before file dealt false =
    IsSoFar start now before file × IsWholeFile start now file.reading.most before

-- a file that was read so far is read further, or was read whole, or it stops: what the feed and the file were before,
-- and are then
pub record ReadsOn {R : Type 0} (left : R → Option (List ℕ)) (feed fed : Device R) (old new : FileReading)
    (result : Result Bool LoadFault) : Type 0 where
  pub stops : IfErr result (λ fault. (start : Option (List ℕ)) (before : Contents)
      → IsSoFar start (left feed.device) before old
      → Stops start (left fed.device) old.reading.most old.limit fault)
  -- Whatever the result, no more is taken from the reader than the file may have, and one byte.
  pub taken : (start : Option (List ℕ)) (before : Contents)
      → IsSoFar start (left feed.device) before old
      → GaveUpTo start (left fed.device) (old.reading.most + 1)
  pub most : new.reading.most ≡ old.reading.most
  pub limit : new.limit ≡ old.limit
  pub not_back : IfOk result (λ _. old.reading.given ≤ new.reading.given)
  pub further : IfOk result (λ more. more ≡ true → old.reading.given < new.reading.given)
  -- The fault is Read exactly where the feed has failed, and a failed feed stays as it is.
  pub failed : IsErrOf result Read ↔ HasFailed fed
  pub for_good : HasFailed feed → fed ≡ feed

-- the next segment is dealt after the messages that are, `number` messages of the file before these, or it was read
-- whole
abbrev pub DealsSegment : {R : Type 0} → (R → Option (List ℕ)) → ℕ → Device R → Device R → FileReading
    → FileReading → Dealt → Dealt → Type 0
DealsSegment left number feed fed old new had dealt =
    (start : Option (List ℕ)) (before : Contents) → IsFurther start (left feed.device) before old had
    → number ≡ length before.payloads
    → IsFurther start (left fed.device) before new dealt

-- the next messages of a file are read and dealt, or it was read whole, or it stops
pub record DealsNext {R : Type 0} (left : R → Option (List ℕ)) (feed fed : Device R) (old new : FileReading)
    (dealt : Dealt) (result : Result Bool LoadFault) : Type 0 where
  pub next : IfOk result (λ more. (start : Option (List ℕ)) (before : Contents)
      → IsSoFar start (left feed.device) before old
      → Next start (left fed.device) before new dealt more)
  pub reads : ReadsOn left feed fed old new result

-- the messages that are dealt are replayed, unless memory is refused
abbrev pub ReplaysDealt : ReplayState → ReplayState → Dealt → Result (Unit {0}) AllocError → Type 0
ReplaysDealt old new dealt result =
    OnOk result ((day payloads : List (List ℕ)) → HasReplayed day old → IsDealt (length day) payloads dealt
    → HasReplayed (day ++ payloads) new)

-- the reader gave a whole file, of no more than so many bytes and messages, which ends so, and its messages are replayed
pub record HasReplayedWhole (start now : Option (List ℕ)) (bytes messages : ℕ) (end : FileEnd)
    (replay : ReplayState) : Type 0
  where
    pub contents : Contents
    pub whole : IsWholeFile start now bytes contents
    pub few : length contents.payloads ≤ messages
    pub marked_is : end.marked ≡ contents.marked
    pub tail_is : end.tail ≡ length contents.tail
    pub replayed : HasReplayed contents.payloads replay

-- what a file with these contents makes: the numbers of its messages and of those that were passed over, the refused
-- ones, the machines of its stocks, the last event, and how it ends
pub record IsFileSummary {A : Type 0} (contents : Contents) (made : FileSummary A) : Type 0 where
  pub count_is : made.summary.messages ≡ length contents.payloads
  pub passed_is : made.summary.passed ≡ count_by is_passed (outcomes contents.payloads)
  pub summary : IsSummary contents.payloads made.summary.refused.items made.summary.stocks.items
      made.summary.event
  pub marked_is : made.marked ≡ contents.marked
  pub tail_is : made.tail ≡ length contents.tail

-- the reader gave a whole file, of no more than so many bytes and messages, and this is what it makes
pub record IsReplayedFile {A : Type 0} (start now : Option (List ℕ)) (bytes messages : ℕ)
    (made : FileSummary A) : Type 0
  where
    pub contents : Contents
    pub whole : IsWholeFile start now bytes contents
    pub few : length contents.payloads ≤ messages
    pub makes : IsFileSummary contents made
