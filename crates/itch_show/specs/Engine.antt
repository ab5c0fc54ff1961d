-- What an engine reads, writes and returns that answers a question about a day file that two readers give, where a part of the
-- file may suffice. All is of this project.
use Rattle.std.specs.Prelude.{◌≡◌, ◌≢◌, ◌⊎◌, ◌+◌, ◌-◌, ◌^◌, ◌<◌, ℕ, List, length, take, Option, Result, Ok, Err, IsErr, IsErrOf, IsOk}
use Rattle.std.specs.Io.KnownBytes.{Appends}
use Rattle.std.specs.declared.vec.Vec.{Vec}
use Rattle.binaryfile.specs.Devices.{Device, GaveUpTo, HasFailed}
use Rattle.binaryfile.specs.Entries.{Contents}
use Rattle.binaryfile.specs.declared.day.Limits.{Limits}
use Rattle.engine_rules.specs.declared.fault.ProgFault.TheVariants.{Read, Write}
use Rattle.itch_readings.specs.declared.fault.StockFault.{StockFault}
use Rattle.itch_readings.specs.declared.fault.StockFault.TheVariants.{Engine}
use Rattle.itch_readings.specs.declared.naming.StockName.{StockName}
use Rattle.itch_show.specs.Parts.{StopsAt}
use Rattle.itch_show.specs.Shown.{GaveParts, PrintsShown, Refuses}
use Rattle.itch_show.specs.declared.place.Place.{Place}

-- the most bytes and messages of a day file
abbrev pub file_limits : Limits
file_limits = record { bytes = 2 ^ 40; messages = 2 ^ 32 - 1 }

-- A question: up to where a file is read for it, which text answers it of a file, and by which fault none does, where the file
-- has these bytes and contents.
pub record Question : Type 1 where
  pub place : Place
  pub Answers : List ℕ → Contents → Type 0
  pub Refuses : List ℕ → Contents → StockFault → Type 0

-- what is returned of a file
abbrev pub Returns : {A : Type 0} → Question → List ℕ → Contents → Result (Vec ℕ A) StockFault → Type 0
Returns question input file (Ok text) = question.Answers text.items file
Returns question input file (Err fault) = question.Refuses input file fault

-- The bytes that both readers have left before and after a run, and those that the writer has taken before and after it.
pub record Traffic : Type 0 where
  pub left : Option (List ℕ)
  pub left_after : Option (List ℕ)
  pub again : Option (List ℕ)
  pub again_after : Option (List ℕ)
  pub taken : Option (List ℕ)
  pub taken_after : Option (List ℕ)

-- What came in and went out, where `left` and `again` read off the readers the bytes that they have left, and `taken` off the
-- writer those that it has taken.
abbrev pub traffic_of : {R S W : Type 0}
    → (R → Option (List ℕ)) → (S → Option (List ℕ)) → (W → Option (List ℕ))
    → Device R → Device R → Device S → Device S → Device W → Device W → Traffic
traffic_of left again taken feed fed second seconded sink sent = record {
  left = left feed.device;
  left_after = left fed.device;
  again = again second.device;
  again_after = again seconded.device;
  taken = taken sink.device;
  taken_after = taken sent.device;
}

-- The readers gave a file of which this holds.
abbrev pub Gave : Traffic → (List ℕ → Contents → Type 0) → Type 0
Gave traffic = GaveParts traffic.left traffic.left_after traffic.again traffic.again_after

-- The writer took the text that answers, and nothing else.
pub record Writes (question : Question) (traffic : Traffic) : Type 0 where
  pub text : List ℕ
  pub answers : Gave traffic (λ _ file. question.Answers text file)
  pub wrote : Appends traffic.taken traffic.taken_after text

-- The writer took a prefix of that text, not all of it, and nothing else.
pub record WritesPrefix (question : Question) (traffic : Traffic) : Type 0 where
  pub text : List ℕ
  pub answers : Gave traffic (λ _ file. question.Answers text file)
  pub count : ℕ
  pub less : count < length text
  pub wrote : Appends traffic.taken traffic.taken_after (take count text)

abbrev pub Ends : Question → Traffic → Result (Unit {0}) StockFault → Type 0
Ends question traffic (Ok _) = Writes question traffic
Ends question traffic (Err (Engine Write)) = WritesPrefix question traffic
Ends question traffic (Err fault) = Gave traffic (λ input file. question.Refuses input file fault)

-- A run that answers a question, from its feeds and its sink as they were to what they are after it.
pub record RunsTwice {R S W : Type 0} (question : Question)
    (left : R → Option (List ℕ)) (again : S → Option (List ℕ)) (taken : W → Option (List ℕ))
    (feed fed : Device R) (second seconded : Device S) (sink sent : Device W)
    (result : Result (Unit {0}) StockFault) : Type 0 where
  pub ends : Ends question (traffic_of left again taken feed fed second seconded sink sent) result
  -- Whatever the result, no more is taken from each reader than the limit and one byte.
  pub takes_at_most : GaveUpTo (left feed.device) (left fed.device) (2 ^ 40 + 1)
  pub again_at_most : GaveUpTo (again second.device) (again seconded.device) (2 ^ 40 + 1)
  -- For an answer the first reader is asked for no more than a segment of 1 MiB after messages that don't come as far.
  pub needed : IsOk result → StopsAt question.place (2 ^ 20) (left feed.device) (left fed.device)
  -- The fault is Read where the first feed has failed or the second one does, and only there, and Write only where the sink
  -- has failed. After another fault nothing was sent.
  pub read : IsErrOf result (Engine Read) → (HasFailed fed ⊎ HasFailed seconded)
  pub failed : HasFailed fed → IsErrOf result (Engine Read)
  pub failed_again : HasFailed seconded → (HasFailed second ⊎ IsErrOf result (Engine Read))
  pub write : IsErrOf result (Engine Write) → HasFailed sent
  pub nothing_sent : IsErr result → result ≢ Err (Engine Write) → sent ≡ sink
  -- A failed device stays as it is, and is not asked.
  pub feed_for_good : HasFailed feed → fed ≡ feed
  pub again_for_good : HasFailed second → seconded ≡ second
  pub sink_for_good : HasFailed sink → sent ≡ sink

-- what a stock is at a place of a file
abbrev pub shown_at : StockName → Place → Limits → Question
shown_at name place limits = record {
  place = place;
  Answers = λ text file. PrintsShown name place text file.payloads;
  Refuses = Refuses name place limits;
}

-- ---- a text that was made, or a fault by which none was

-- The text was sent, or a prefix where the sink has failed; a fault is returned, and nothing was sent.
abbrev pub SendsMade : {A W : Type 0} → (W → Option (List ℕ)) → Device W → Device W
    → Result (Vec ℕ A) StockFault → Result (Unit {0}) StockFault → Type 0
SendsMade taken sink sent (Ok text) (Ok _) = Appends (taken sink.device) (taken sent.device) text.items
SendsMade taken sink sent (Ok text) (Err fault) =
    (fault ≡ Engine Write) × HasFailed sent × (count : ℕ) × (count < length text.items)
    × Appends (taken sink.device) (taken sent.device) (take count text.items)
SendsMade taken sink sent (Err fault) (Ok _) = ⊥
SendsMade taken sink sent (Err fault) (Err other) = (other ≡ fault) × (sent ≡ sink)
