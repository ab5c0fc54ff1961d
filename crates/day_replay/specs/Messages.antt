-- Messages of a day, each by its number and its payload, and which batch's they are. All is of this project.
use Rattle.std.specs.Prelude.{◌≡◌, ◌+◌, ℕ, Bool, List, [], ◌∷◌, false, filter, length, map}
use Rattle.binaryfile.specs.Entries.{Splits}
use Rattle.binaryfile.specs.Index.{payloads_of}
use Rattle.itch_table.specs.Parts.{part}
use Rattle.day_core.specs.Owners.{is_own}
use Rattle.day_replay.specs.declared.TheConstants.{BATCHES}

-- payloads one after another as messages, of a day that has so many before them
abbrev pub numbered_after : ℕ → List (List ℕ) → List (ℕ × List ℕ)
numbered_after before [] = []
numbered_after before (payload ∷ payloads) =
    (before + 1, payload) ∷ numbered_after (before + 1) payloads

-- the payloads of messages
abbrev pub payloads_in : List (ℕ × List ℕ) → List (List ℕ)
payloads_in messages = map (λ m. m.1) messages

-- whether a message is of a stock of this batch
abbrev pub is_of_batch : ℕ → ℕ × List ℕ → Bool
is_of_batch batch message = is_own BATCHES batch (part message.1)

-- those of the messages that are of the stocks of a batch
abbrev pub of_batch : ℕ → List (ℕ × List ℕ) → List (ℕ × List ℕ)
of_batch batch messages = filter (is_of_batch batch) messages

-- bytes are whole entries, and there is a number for each of them
pub record AreEntries (numbers bytes : List ℕ) : Type 0 where
  pub whole : Splits bytes (record { payloads = payloads_of bytes; marked = false; tail = [] })
  pub many : length numbers ≡ length (payloads_of bytes)
