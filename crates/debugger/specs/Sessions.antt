-- What a debugger is seen as, and what it keeps. All is of this project.
use Rattle.std.specs.Prelude.{◌≡◌, ◌≤◌, ◌<◌, ◌+◌, ◌-◌, ◌/◌, ◌++◌, ◌∷◌, [], ℕ, Bool, false, true, zero, suc, List, filter, length, max, Option, Some, None}
use Rattle.std.specs.List.{All, remove, range_with_len}
use Rattle.itch_layouts.specs.Shapes.{shape_of}
use Rattle.itch_layouts.specs.declared.message.Msg.TheVariants.{System}
use Rattle.itch_layouts.specs.declared.shape.Shape.{Shape}
use Rattle.itch_layouts.specs.declared.shape.Shape.TheVariants.{Known}
use Rattle.itch_table.specs.declared.outcome.Outcome.{Outcome}
use Rattle.itch_table.specs.After.{outcome_at}
use Rattle.day_core.specs.Owners.{last_or}
use Rattle.checkpoints.specs.Copies.{Tracked, numbers_of}
use Rattle.checkpoints.specs.Filtering.{numbers_where}
use Rattle.debugger.specs.Stops.{stops_at}
use Rattle.debugger.specs.declared.breakpoint.Break.{Break}

-- the day, the fewest messages of a stock from one copy of its machine to the next, the number of messages up to
-- the position, and the breakpoints in the order in which they were added
pub record Session : Type 0 where
  pub day : List (List ℕ)
  pub every : ℕ
  pub position : ℕ
  pub breaks : List Break

-- a session at position 0, without breakpoints
abbrev pub new_session : List (List ℕ) → ℕ → Session
new_session day every = record { day = day; every = every; position = 0; breaks = [] }

-- a session that moved to another position
abbrev pub moved_to : Session → ℕ → Session
moved_to s n = record s { position = n }

-- a session with one breakpoint more, which is the last
abbrev pub with_break : Session → Break → Session
with_break s breakpoint = record s { breaks = s.breaks ++ breakpoint ∷ [] }

-- a session without the breakpoint at an index; the later ones move down by one
abbrev pub without_break : Session → ℕ → Session
without_break s index = record s { breaks = remove s.breaks index }

-- the first of some numbers, or another where there is none
abbrev pub first_or : ℕ → List ℕ → ℕ
first_or other [] = other
first_or other (n ∷ ns) = n

-- the first message after a session's position at which a breakpoint stops, or the last message
abbrev pub next_stop : Session → ℕ
next_stop s =
    first_or (length s.day)
    (filter (stops_at s.breaks s.day) (range_with_len (s.position + 1) (length s.day - s.position)))

-- the last message before a session's position at which a breakpoint stops, or 0
abbrev pub previous_stop : Session → ℕ
previous_stop s = last_or 0 (filter (stops_at s.breaks s.day) (range_with_len 1 (s.position - 1)))

-- whether a payload is a system event message
abbrev pub is_system : Shape → Bool
is_system (Known (System head m)) = true
is_system shape = false

-- the system event messages of a day, by their numbers, rising
unfoldable pub systems_of : List (List ℕ) → List ℕ
systems_of day = numbers_where day (λ payload. is_system (shape_of payload))

-- ---- what is kept

-- a day with breakpoints
pub record Marked : Type 0 where
  pub day : List (List ℕ)
  pub breaks : List Break

-- a day with the fewest messages of a stock from one copy of its machine to the next
pub record Copied : Type 0 where
  pub day : List (List ℕ)
  pub every : ℕ

-- how many messages of a stock that has this many lie from one copy of its machine to the next: the fewest that are
-- asked for, or the least number that leaves at most 48 copies, the first among them, where it is greater
abbrev pub distance_of : ℕ → ℕ → ℕ
distance_of every messages = max every (messages / 48 + 1)

-- a track of the day, with copies so far apart
pub record IsOf (day : List (List ℕ)) (every : ℕ) (track : Tracked) : Type 0 where
  pub day_is : track.day ≡ day
  pub every_is : track.every ≡ distance_of every (length (numbers_of day track.locate))

-- every track is of the day, and those of the stocks that were asked for last are few
pub record AreTracks (day : List (List ℕ)) (every : ℕ) (busy recent : List Tracked) : Type 0 where
  pub some : 0 < every
  pub busy_of : All (IsOf day every) busy
  pub recent_of : All (IsOf day every) recent
  pub few : length recent ≤ 64

-- what a debugger keeps beside its breakpoints, each of the same day
pub record IsSession (day : List (List ℕ)) (position : ℕ) (outcome : Option Outcome) (systems : List ℕ)
    (marked : Marked) (copied : Copied) : Type 0 where
  pub within : position ≤ length day
  pub outcome_is : outcome ≡ outcome_at day position
  pub systems_are : systems ≡ systems_of day
  pub breaks_of : marked.day ≡ day
  pub tracks_of : copied.day ≡ day
