-- What a run reads, writes and returns, for every engine. Engines differ only in what they make of an input.
use Rattle.std.specs.Prelude.{◌≡◌, ◌≢◌, ◌↔◌, ℕ, ◌+◌, ◌<◌, ◌≤◌, List, length, take, Option, Result, Ok, Err, IsErr, IsErrOf}
use Rattle.std.specs.Io.KnownBytes.{Appends}
use Rattle.binaryfile.specs.Devices.{Device, HasFailed, GaveAll, GaveMore, GaveUpTo}
use Rattle.engine_rules.specs.declared.fault.ProgFault.{ProgFault}
use Rattle.engine_rules.specs.declared.fault.ProgFault.TheVariants.{Memory, Read, TooManyBytes, Write}

-- An engine takes inputs of at most this many bytes. Of an input it makes an output and a result, or it finds a fault
-- in the input.
pub record Engine (A : Type 0) : Type 1 where
  pub most : ℕ
  pub Makes : List ℕ → List ℕ → A → Type 0
  pub Finds : List ℕ → ProgFault → Type 0

-- Why nothing is made of an input: out of memory, which says nothing of the input, or a fault that the engine finds
-- in it.
abbrev pub Fails : {A : Type 0} → Engine A → List ℕ → ProgFault → Type 0
Fails engine input Memory = Unit {0}
Fails engine input Read = ⊥
Fails engine input TooManyBytes = ⊥
Fails engine input Write = ⊥
Fails engine input fault = engine.Finds input fault

-- The bytes that the reader has left before and after a run, and those that the writer has taken before and after it.
pub record Traffic : Type 0 where
  pub left : Option (List ℕ)
  pub left_after : Option (List ℕ)
  pub taken : Option (List ℕ)
  pub taken_after : Option (List ℕ)

-- The reader gave this input to its end, of no more bytes than the engine takes.
pub record Takes {A : Type 0} (engine : Engine A) (traffic : Traffic) (input : List ℕ) : Type 0 where
  pub gave : GaveAll traffic.left traffic.left_after input
  pub within : length input ≤ engine.most

-- The reader gave a whole input, of no more bytes than the engine takes, of which the engine makes this output and this
-- result.
pub record HasMade {A : Type 0} (engine : Engine A) (old new : Option (List ℕ)) (output : List ℕ)
    (result : A) : Type 0
  where
    pub input : List ℕ
    pub gave : GaveAll old new input
    pub within : length input ≤ engine.most
    pub makes : engine.Makes input output result

-- What the reader gave where an engine stops at a fault before it writes, so that the fault isn't that of a write: out of
-- memory and a failed read say nothing of it, else it is more bytes than the engine takes, or a whole input in which the
-- engine finds the fault.
abbrev pub StopsReading : {A : Type 0} → Engine A → Option (List ℕ) → Option (List ℕ) → ProgFault → Type 0
StopsReading engine old new Memory = Unit {0}
StopsReading engine old new Read = Unit {0}
StopsReading engine old new TooManyBytes = GaveMore old new engine.most
StopsReading engine old new Write = ⊥
StopsReading engine old new fault =
    (input : List ℕ) × GaveAll old new input × (length input ≤ engine.most) × engine.Finds input fault

-- The writer took the output that the engine makes of the whole input, and nothing else.
pub record Finishes {A : Type 0} (engine : Engine A) (traffic : Traffic) (result : A) : Type 0 where
  pub input : List ℕ
  pub takes : Takes engine traffic input
  pub output : List ℕ
  pub makes : engine.Makes input output result
  pub wrote : Appends traffic.taken traffic.taken_after output

-- The writer took a prefix of that output, not all of it, and nothing else.
pub record WritesPrefix {A : Type 0} (engine : Engine A) (traffic : Traffic) : Type 0 where
  pub input : List ℕ
  pub takes : Takes engine traffic input
  pub output : List ℕ
  pub result : A
  pub makes : engine.Makes input output result
  pub count : ℕ
  pub less : count < length output
  pub wrote : Appends traffic.taken traffic.taken_after (take count output)

-- The engine finds a fault in the whole input.
pub record Refuses {A : Type 0} (engine : Engine A) (traffic : Traffic) (fault : ProgFault) : Type 0 where
  pub input : List ℕ
  pub takes : Takes engine traffic input
  pub finds : engine.Finds input fault

-- What was read and written where a run stops at a fault. Out of memory and a failed read say nothing of the input.
abbrev pub Stops : {A : Type 0} → Engine A → Traffic → ProgFault → Type 0
Stops engine traffic Memory = Unit {0}
Stops engine traffic Read = Unit {0}
Stops engine traffic TooManyBytes = GaveMore traffic.left traffic.left_after engine.most
Stops engine traffic Write = WritesPrefix engine traffic
Stops engine traffic fault = Refuses engine traffic fault

abbrev pub Ends : {A : Type 0} → Engine A → Traffic → Result A ProgFault → Type 0
Ends engine traffic (Ok result) = Finishes engine traffic result
Ends engine traffic (Err fault) = Stops engine traffic fault

-- What came in and went out, where `left` reads off a reader the bytes that it has left, and `taken` off a writer those
-- that it has taken.
abbrev pub traffic_of : {R W : Type 0} → (R → Option (List ℕ)) → (W → Option (List ℕ))
    → Device R → Device R → Device W → Device W → Traffic
traffic_of left taken feed fed sink sent = record {
  left = left feed.device;
  left_after = left fed.device;
  taken = taken sink.device;
  taken_after = taken sent.device;
}

-- A run of the engine, from its feed and its sink as they were to what they are after it.
pub record Runs {A R W : Type 0} (engine : Engine A)
    (left : R → Option (List ℕ)) (taken : W → Option (List ℕ))
    (feed fed : Device R) (sink sent : Device W) (result : Result A ProgFault) : Type 0 where
  pub ends : Ends engine (traffic_of left taken feed fed sink sent) result
  -- Whatever the result, no more is taken from the reader than the limit and one byte.
  pub takes_at_most : GaveUpTo (left feed.device) (left fed.device) (engine.most + 1)
  -- The fault is Read exactly where the feed has failed, and Write only where the sink has. After another fault nothing
  -- was sent.
  pub read : IsErrOf result Read ↔ HasFailed fed
  pub write : IsErrOf result Write → HasFailed sent
  pub nothing_sent : IsErr result → result ≢ Err Write → sent ≡ sink
  -- A failed device stays as it is, and is not asked.
  pub feed_for_good : HasFailed feed → fed ≡ feed
  pub sink_for_good : HasFailed sink → sent ≡ sink
