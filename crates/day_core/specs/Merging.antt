-- What pieces make of a day, each of which names a message and what became of it. All is of this project.
use Rattle.std.specs.Prelude.{◌≡◌, ℕ, List, ◌==◌, ◌+◌, ◌<◌, ◌≤◌, length, take, count_by, Option, Some, None, MatchOption, IsSome, slice_index_or}
use Rattle.std.specs.List.{Contains, flat_map}
use Rattle.itch_table.specs.declared.outcome.Outcome.{Outcome}
use Rattle.day_core.specs.declared.merging.Piece.{Piece}
use Rattle.day_core.specs.declared.merging.MergeFault.{MergeFault}
use Rattle.day_core.specs.declared.merging.MergeFault.TheVariants.{Memory, Double, Stranger, Missing}

-- the pieces of all lists, one after another
abbrev pub joined : List (List Piece) → List Piece
joined lists = flat_map (λ list. list) lists

-- how many of the pieces name a message
abbrev pub named : ℕ → List Piece → ℕ
named message pieces = count_by (λ piece. piece.message == message) pieces

-- a day of this many messages has this one
abbrev pub HasMessage : ℕ → ℕ → Type 0
HasMessage messages message = (0 < message) × (message ≤ messages)

-- each piece names a message of the day that no piece before it names
abbrev pub AreSound : ℕ → List Piece → Type 0
AreSound messages pieces =
    (i : ℕ) (d : Piece) → i < length pieces
    → HasMessage messages (slice_index_or pieces i d).message
    × (named (slice_index_or pieces i d).message (take i pieces) ≡ 0)

-- one outcome for each message of the day, that of the one piece that names the message
pub record IsMerged (messages : ℕ) (pieces : List Piece) (outcomes : List Outcome) : Type 0 where
  pub sound : AreSound messages pieces
  pub long : length outcomes ≡ messages
  pub each : (before : ℕ) (d : Outcome) → before < messages
      → (named (before + 1) pieces ≡ 1)
      × Contains pieces (record { message = before + 1; outcome = slice_index_or outcomes before d })

-- why a piece can't follow others
abbrev pub IsFaulty : ℕ → List Piece → Piece → MergeFault → Type 0
IsFaulty messages others piece (Double message) =
    (message ≡ piece.message) × HasMessage messages message × (0 < named message others)
IsFaulty messages others piece (Stranger message) =
    (message ≡ piece.message) × (¬ HasMessage messages message)
IsFaulty messages others piece Memory = ⊥
IsFaulty messages others piece (Missing message) = ⊥

-- the fault is that of the piece at an index, where all before it are sound
pub record IsFirstFault (messages : ℕ) (pieces : List Piece) (fault : MergeFault) : Type 0 where
  pub index : ℕ
  pub within : index < length pieces
  pub sound : AreSound messages (take index pieces)
  pub faulty : (d : Piece) → IsFaulty messages (take index pieces) (slice_index_or pieces index d) fault

-- the least message that no piece names, where all pieces are sound
pub record IsLeastMissing (messages : ℕ) (pieces : List Piece) (message : ℕ) : Type 0 where
  pub sound : AreSound messages pieces
  pub inside : HasMessage messages message
  pub none : named message pieces ≡ 0
  pub least : (lower : ℕ) → 0 < lower → lower < message → named lower pieces ≡ 1

-- when each fault comes: memory may be refused at any time
abbrev pub IsMergeFault : ℕ → List Piece → MergeFault → Type 0
IsMergeFault messages pieces Memory = Unit {0}
IsMergeFault messages pieces (Missing message) = IsLeastMissing messages pieces message
IsMergeFault messages pieces fault = IsFirstFault messages pieces fault

-- ---- the slots that pieces are put into, one for each message

-- each slot has the outcome of the one piece that names its message, or none where no piece does
pub record Holds (pieces : List Piece) (slots : List (Option Outcome)) : Type 0 where
  pub sound : AreSound (length slots) pieces
  pub slot : (before : ℕ) (d : Option Outcome) → before < length slots
      → MatchOption (slice_index_or slots before d)
      (named (before + 1) pieces ≡ 0)
      (λ outcome. (named (before + 1) pieces ≡ 1)
      × Contains pieces (record { message = before + 1; outcome = outcome }))

-- each slot has the outcome at its index
abbrev pub AreFilled : List (Option Outcome) → List Outcome → Type 0
AreFilled slots outcomes =
    (length outcomes ≡ length slots)
    × ((k : ℕ) (one : Outcome) (none : Option Outcome) → k < length slots
    → slice_index_or slots k none ≡ Some (slice_index_or outcomes k one))

-- the first slot that is empty
abbrev pub IsEmptyAt : List (Option Outcome) → MergeFault → Type 0
IsEmptyAt slots Memory = ⊥
IsEmptyAt slots (Double message) = ⊥
IsEmptyAt slots (Stranger message) = ⊥
IsEmptyAt slots (Missing message) =
    (before : ℕ) × (message ≡ before + 1) × (before < length slots)
    × ((d : Option Outcome) → slice_index_or slots before d ≡ None)
    × ((k : ℕ) (d : Option Outcome) → k < before → IsSome (slice_index_or slots k d))
