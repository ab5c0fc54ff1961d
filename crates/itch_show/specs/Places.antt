-- Where in a day a stock is shown. All is of this project.
use Rattle.std.specs.Prelude.{◌≡◌, ◌+◌, ◌<◌, ◌≤◌, ◌++◌, ℕ, Bool, IsTrue, false, not, nat_lt, nat_le, List, length, take}
use Rattle.std.specs.List.{prefix_len}
use Rattle.itch_layouts.specs.Means.{fields_of}
use Rattle.itch_layouts.specs.Shapes.{shape_of}
use Rattle.itch_layouts.specs.declared.shape.Shape.{Shape}
use Rattle.itch_layouts.specs.declared.shape.Shape.TheVariants.{Known}
use Rattle.itch_show.specs.declared.place.Place.{Place}
use Rattle.itch_show.specs.declared.place.Place.TheVariants.{End, After, At}

-- whether a message is later than a time, in nanoseconds since midnight; a payload that is no message isn't
abbrev pub is_later_shape : ℕ → Shape → Bool
is_later_shape time (Known m) = nat_lt time (fields_of m).head.time
is_later_shape time other = false

abbrev pub is_later : ℕ → List ℕ → Bool
is_later time payload = is_later_shape time (shape_of payload)

-- how many messages of a day come before a place: all, so many, or those before the first that is later than a time
abbrev pub position_of : Place → List (List ℕ) → ℕ
position_of End day = length day
position_of (After n) day = n
position_of (At time) day = prefix_len (λ payload. not (is_later time payload)) day

-- these messages
abbrev pub up_to : Place → List (List ℕ) → List (List ℕ)
up_to place day = take (position_of place day) day

-- a day has fewer messages than a place asks for
abbrev pub IsPast : Place → List (List ℕ) → Type 0
IsPast place day = length day < position_of place day

-- whether a place asks for more messages than so many
abbrev pub is_past : Place → ℕ → Bool
is_past End messages = false
is_past (After n) messages = nat_lt messages n
is_past (At time) messages = false

-- whether a place lies before the message that follows so many others, by its payload
abbrev pub is_before : Place → ℕ → List ℕ → Bool
is_before End messages payload = false
is_before (After n) messages payload = nat_le n messages
is_before (At time) messages payload = is_later time payload

-- whether a place lies after so many messages, whatever follows
abbrev pub is_reached : Place → ℕ → Bool
is_reached End messages = false
is_reached (After n) messages = nat_le n messages
is_reached (At time) messages = false

-- a day has no message after a place
abbrev pub ComesUpTo : Place → List (List ℕ) → Type 0
ComesUpTo place day = length day ≤ position_of place day

-- of the messages of a segment after a day so many come before a place, and with them this holds; the place was reached,
-- whatever follows, or the segment comes up to it too
pub record TakesUpTo (place : Place) (day segment : List (List ℕ)) (messages : ℕ) (reached : Bool)
    (Holds : List (List ℕ) → Type 0) : Type 0 where
  pub few : messages ≤ length segment
  pub holds : Holds (day ++ take messages segment)
  pub comes_up : ComesUpTo place (day ++ take messages segment)
  pub closed : IsTrue reached → (more : List (List ℕ))
      → position_of place ((day ++ segment) ++ more) ≡ length day + messages
  pub goes_on : ¬ IsTrue reached → (messages ≡ length segment) × ComesUpTo place (day ++ segment)
      × ¬ IsTrue (is_reached place (length day + messages))
