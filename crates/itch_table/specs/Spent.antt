-- The references that orders have had: once spent, a reference stays spent, and those of live orders are. Of this
-- project.
use Rattle.std.specs.Prelude.{◌≤◌, ℕ, List, IsTrue}
use Rattle.std.specs.Option.{IsSome}
use Rattle.itch_table.specs.After.{after}
use Rattle.itch_table.specs.Table.{step}
use Rattle.itch_table.specs.World.{World, is_spent, live}

-- whatever payload comes, what is spent stays spent
abbrev pub StepsKeepSpent : Type 0
StepsKeepSpent =
    (w : World) (payload : List ℕ) (locate reference : ℕ) → IsTrue (is_spent w locate reference)
    → IsTrue (is_spent (step w payload).1 locate reference)

-- what is spent after some messages of a day is spent after any further ones
abbrev pub SpentStays : Type 0
SpentStays =
    (day : List (List ℕ)) (locate reference m n : ℕ) → m ≤ n
    → IsTrue (is_spent (after day m) locate reference)
    → IsTrue (is_spent (after day n) locate reference)

-- after any number of messages of a day each live order's reference is spent
abbrev pub LiveIsSpent : Type 0
LiveIsSpent =
    (day : List (List ℕ)) (locate reference n : ℕ) → IsSome (live (after day n) locate reference)
    → IsTrue (is_spent (after day n) locate reference)
