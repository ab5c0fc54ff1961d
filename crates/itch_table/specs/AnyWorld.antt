-- Payloads that come in any world, and that they split by stock there as a day does. All is of this project.
use Rattle.std.specs.Prelude.{◌≡◌, ◌≤◌, ℕ, List, [], ◌∷◌, length, take}
use Rattle.itch_table.specs.After.{after}
use Rattle.itch_table.specs.Projection.{only, stock_day}
use Rattle.itch_table.specs.Table.{step}
use Rattle.itch_table.specs.World.{World, empty_world}

-- the world after some payloads, the first of which comes in this world
abbrev pub after_all : World → List (List ℕ) → World
after_all w [] = w
after_all w (payload ∷ payloads) = after_all (step w payload).1 payloads

-- a stock's rows after some payloads are all that its own messages among them make of its rows before
abbrev pub ListsSplit : Type 0
ListsSplit =
    (w : World) (payloads : List (List ℕ)) (locate : ℕ)
    → only locate (after_all w payloads) ≡ after_all (only locate w) (stock_day payloads locate)

-- the first messages of a day are such payloads, in the world before the day
abbrev pub DaysAreLists : Type 0
DaysAreLists =
    (day : List (List ℕ)) (n : ℕ) → n ≤ length day → after day n ≡ after_all empty_world (take n day)
