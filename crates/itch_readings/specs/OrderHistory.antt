-- What is kept of a stock's messages for the life of one of its orders. All is of this project.
use Rattle.std.specs.Prelude.{◌≡◌, ◌≤◌, ℕ, List, [], ◌∷◌, ◌++◌, drop, length, map, take}
use Rattle.std.specs.List.{flat_map}
use Rattle.std.specs.BTreeMap.{BTreeMap, get}
use Rattle.std.specs.Option.{unwrap_or}
use Rattle.std.specs.Ordering.{nat_cmp}
use Rattle.itch_readings.specs.OrderLives.{first_reference, life_line}
use Rattle.itch_readings.specs.OwnMessages.{OwnMessage}
use Rattle.itch_readings.specs.declared.order_history.Kept.{Kept}

-- the first reference of the life that has this one, by the new references of replacements; any other is the first of its own
abbrev pub first_by : BTreeMap ℕ ℕ → ℕ → ℕ
first_by firsts reference = unwrap_or (get nat_cmp firsts reference) reference

-- what is kept of a message beside its payload: its number, its outcome, and how long its payload is
abbrev pub kept_of : OwnMessage → Kept
kept_of message = record { number = message.number; outcome = message.outcome; length = length message.payload }

-- these are the messages: what is kept of each, their payloads one after the other, and the first references of lives
pub record AreKept (kept : List Kept) (payloads : List ℕ) (firsts : BTreeMap ℕ ℕ) (messages : List OwnMessage) : Type 0 where
  pub kept_are : kept ≡ map kept_of messages
  pub payloads_are : payloads ≡ flat_map (λ message. message.payload) messages
  pub firsts_are : (reference : ℕ) → first_by firsts reference ≡ first_reference messages reference

-- the payloads of these messages are there, one after the other
abbrev pub HavePayloads : List Kept → List ℕ → Type 0
HavePayloads [] payloads = Unit {0}
HavePayloads (kept ∷ later) payloads =
    (kept.length ≤ length payloads) × HavePayloads later (drop kept.length payloads)

-- the lines of a life, by what is kept of messages and their payloads
abbrev pub kept_lines : (ℕ → ℕ) → ℕ → List Kept → List ℕ → List ℕ
kept_lines first reference [] payloads = []
kept_lines first reference (kept ∷ later) payloads =
    life_line first reference kept.number kept.outcome (take kept.length payloads)
    ++ kept_lines first reference later (drop kept.length payloads)
