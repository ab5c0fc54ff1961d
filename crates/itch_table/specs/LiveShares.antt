-- That live orders have shares. All is of this project.
use Rattle.std.specs.Prelude.{◌≤◌, ℕ, List, IfSome}
use Rattle.itch_table.specs.After.{after}
use Rattle.itch_table.specs.Table.{step}
use Rattle.itch_table.specs.World.{World, live}

-- each live order has at least one share
abbrev pub LiveHaveShares : World → Type 0
LiveHaveShares w = (locate reference : ℕ) → IfSome (live w locate reference) (λ row. 1 ≤ row.shares)

-- whatever payload comes, each live order has at least one share afterwards where each had one before
abbrev pub StepsKeepShares : Type 0
StepsKeepShares = (w : World) (payload : List ℕ) → LiveHaveShares w → LiveHaveShares (step w payload).1

-- after any number of messages of a day each live order has at least one share
abbrev pub DaysKeepShares : Type 0
DaysKeepShares = (day : List (List ℕ)) (n : ℕ) → LiveHaveShares (after day n)
