-- What a replay says of a whole day in short. All is of this project.
use Rattle.std.specs.Prelude.{◌≡◌, ◌≤◌, ◌==◌, ◌&&◌, ℕ, Bool, true, false, List, Option, Some, None, count_by, length, map, filter}
use Rattle.std.specs.List.{Contains, range_with_len}
use Rattle.itch_table.specs.declared.outcome.Outcome.{Outcome}
use Rattle.itch_table.specs.declared.outcome.Outcome.TheVariants.{Applied, Passed, Refused}
use Rattle.itch_table.specs.declared.outcome.Part.{Part}
use Rattle.itch_table.specs.declared.outcome.Part.TheVariants.{Locate, Nowhere}
use Rattle.itch_table.specs.After.{after, outcome}
use Rattle.itch_table.specs.Projection.{is_locate}
use Rattle.itch_table.specs.Shows.{locates_of_day}
use Rattle.stock_machine.specs.StockRows.{StockMachine}
use Rattle.day_core.specs.Owners.{part_at}
use Rattle.day_core.specs.Replaying.{last_machine}
use Rattle.day_replay.specs.declared.refusals.RefusedMessage.{RefusedMessage}

-- an outcome is that of a message that was applied
abbrev pub is_applied : Outcome → Bool
is_applied Applied = true
is_applied Passed = false
is_applied (Refused fault) = false

-- an outcome is that of a message that was passed over
abbrev pub is_passed : Outcome → Bool
is_passed Applied = false
is_passed Passed = true
is_passed (Refused fault) = false

-- an outcome is that of a message that was refused
abbrev pub is_refused : Outcome → Bool
is_refused Applied = false
is_refused Passed = false
is_refused (Refused fault) = true

-- the locate code of the stock that a part is, where it is a stock's
abbrev pub stock_of : Part → Option ℕ
stock_of (Locate locate) = Some locate
stock_of (Nowhere fixed) = None

-- message n of a day as one that was refused: whose it is, and its outcome
abbrev pub refused_message : List (List ℕ) → ℕ → RefusedMessage
refused_message day n =
    record { message = n; locate = stock_of (part_at day n); outcome = outcome day n }

-- the refused ones of these messages of a day
abbrev pub refused_among : List (List ℕ) → List ℕ → List RefusedMessage
refused_among day numbers = map (refused_message day) (filter (λ n. is_refused (outcome day n)) numbers)

-- the refused messages of a day, by rising number
abbrev pub refused_of : List (List ℕ) → List RefusedMessage
refused_of day = refused_among day (range_with_len 1 (length day))

-- a message of a stock whose number isn't among those of a day's refused messages was applied
abbrev pub OthersAreApplied : Type 0
OthersAreApplied =
    (day : List (List ℕ)) (n locate : ℕ) → 1 ≤ n → n ≤ length day → part_at day n ≡ Locate locate
    → ¬ Contains (map (λ refused. refused.message) (refused_of day)) n → outcome day n ≡ Applied

-- a message is this stock's, by the locate code of the one whose it is
abbrev pub is_stock : ℕ → Option ℕ → Bool
is_stock locate None = false
is_stock locate (Some other) = other == locate

-- how many of these refused messages are a stock's
abbrev pub count_of_stock : List RefusedMessage → ℕ → ℕ
count_of_stock refused locate = count_by (λ r. is_stock locate r.locate) refused

-- message n of a day was refused, and is this stock's
abbrev pub is_refused_of : List (List ℕ) → ℕ → ℕ → Bool
is_refused_of day locate n = is_refused (outcome day n) && is_locate locate (part_at day n)

-- how many of a stock's messages in a day were refused
abbrev pub stock_refused_count : List (List ℕ) → ℕ → ℕ
stock_refused_count day locate = count_by (is_refused_of day locate) (range_with_len 1 (length day))

-- a day's refused messages tell how many of each stock's messages were refused
abbrev pub RefusedAreCounted : Type 0
RefusedAreCounted =
    (day : List (List ℕ)) (locate : ℕ)
    → count_of_stock (refused_of day) locate ≡ stock_refused_count day locate

-- what a whole day makes, in short: its refused messages by rising number, the machines of its stocks by rising
-- locate code, and the last event
pub record IsSummary (day : List (List ℕ)) (refused : List RefusedMessage) (stocks : List StockMachine)
    (event : Option ℕ) : Type 0 where
  pub refused_are : refused ≡ refused_of day
  pub stocks_are : stocks ≡ map (last_machine day) (locates_of_day day)
  pub event_is : event ≡ (after day (length day)).event
