-- Schedules: turns of a day's workers and looks of screens, in any order. All is of this project.
use Rattle.std.specs.Prelude.{◌≡◌, ◌≤◌, ◌==◌, ℕ, Bool, false, List, [], ◌∷◌, Option, Some, None, count_by, length, min, slice_get, slice_index, take}
use Rattle.std.specs.List.{AllPairs, flat_map, range_with_len}
use Rattle.day_core.specs.declared.merging.Piece.{Piece}
use Rattle.day_core.specs.declared.playing.Event.{Event}
use Rattle.day_core.specs.declared.playing.Event.TheVariants.{Look, Turn}
use Rattle.day_core.specs.declared.playing.Seen.{Seen}
use Rattle.day_core.specs.Turns.{TurnsState, TurnsWorker, progress_in, shown, words_at}
use Rattle.day_core.specs.Owners.{own_of, owner}

-- whether an event is a turn of this worker
abbrev pub is_turn : ℕ → Event → Bool
is_turn worker (Turn other) = other == worker
is_turn worker (Look screen locate) = false

-- how many of its messages a worker has done after these events: one a turn, as long as it has any
abbrev pub done_after : List (List ℕ) → ℕ → List Event → ℕ → ℕ
done_after day workers events worker =
    min (count_by (is_turn worker) events) (length (own_of workers worker day))

-- what an event shows after those before it: a look shows a stock as far as its worker has come, and a turn
-- nothing
abbrev pub seen_at : List (List ℕ) → ℕ → List Event → Option Event → List Seen
seen_at day workers before None = []
seen_at day workers before (Some (Turn worker)) = []
seen_at day workers before (Some (Look screen locate)) =
    record {
      screen = screen;
      locate = locate;
      words = shown day workers locate (done_after day workers before (owner workers locate));
    } ∷ []

-- what the first of some events show, in order
abbrev pub seen_until : List (List ℕ) → ℕ → List Event → ℕ → List Seen
seen_until day workers events count =
    flat_map (λ i. seen_at day workers (take i events) (slice_get events i)) (range_with_len 0 count)

-- what these events show, in order
abbrev pub seen_by : List (List ℕ) → ℕ → List Event → List Seen
seen_by day workers events = seen_until day workers events (length events)

-- the message after which a look shows its stock, or 0 before the first: the first of its four words
abbrev pub message_seen : Seen → ℕ
message_seen seen = slice_index seen.words 0

-- a later look at the same stock shows no earlier message
abbrev pub IsNotBack : Seen → Seen → Type 0
IsNotBack earlier later = earlier.locate ≡ later.locate → message_seen earlier ≤ message_seen later

-- no look of a schedule shows an earlier message than one before it
abbrev pub SeenNeverGoesBack : Type 0
SeenNeverGoesBack =
    (day : List (List ℕ)) (workers : ℕ) (events : List Event)
    → AllPairs IsNotBack (seen_by day workers events)

-- ---- one event

-- what an event changes: a turn what a turn of its worker does, and a look nothing
abbrev pub Changes : TurnsState → Event → TurnsState → Type 0
Changes old (Turn worker) new = (result : Option Piece) × TurnsWorker old new worker result
Changes old (Look screen locate) new = new ≡ old

-- what an event shows of workers that are this far
abbrev pub seen_of : TurnsState → Event → List Seen
seen_of turns (Turn worker) = []
seen_of turns (Look screen locate) =
    record {
      screen = screen;
      locate = locate;
      words = words_at turns.day locate (progress_in turns locate);
    } ∷ []
