-- The top of one stock after each of its messages.
use Rattle.std.specs.Prelude.{ℕ, ◌+◌, ◌-◌, List, length, map}
use Rattle.itch_layouts.specs.Means.{fields_of}
use Rattle.itch_layouts.specs.Shapes.{shape_of}
use Rattle.itch_layouts.specs.declared.shape.Shape.{Shape}
use Rattle.itch_layouts.specs.declared.shape.Shape.TheVariants.{Known}
use Rattle.itch_table.specs.Projection.{payload_at}
use Rattle.itch_table.specs.Shows.{top_after}
use Rattle.itch_readings.specs.OwnMessages.{own_numbers}
use Rattle.itch_readings.specs.declared.moments.Moment.{Moment}

-- when a message was made, in nanoseconds since midnight; 0 where a payload is no message
abbrev pub time_of_shape : Shape → ℕ
time_of_shape (Known m) = (fields_of m).head.time
time_of_shape other = 0

abbrev pub time_of : List ℕ → ℕ
time_of payload = time_of_shape (shape_of payload)

-- the stock's top after message n of the day
abbrev pub moment : List (List ℕ) → ℕ → ℕ → Moment
moment day locate n = record { message = n; time = time_of (payload_at day n); top = top_after day locate n }

-- the moments of the stock among the first n messages
abbrev pub tops_until : List (List ℕ) → ℕ → ℕ → List Moment
tops_until day locate n = map (moment day locate) (own_numbers day locate 1 n)

-- in the whole day
abbrev pub tops_of : List (List ℕ) → ℕ → List Moment
tops_of day locate = tops_until day locate (length day)

-- from message n on
abbrev pub tops_from : List (List ℕ) → ℕ → ℕ → List Moment
tops_from day locate n = map (moment day locate) (own_numbers day locate n (length day + 1 - n))
