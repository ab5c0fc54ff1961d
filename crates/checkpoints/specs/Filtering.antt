-- The messages of a day that a predicate on payloads keeps. All is of this project.
use Rattle.std.specs.Prelude.{◌≡◌, ℕ, Bool, List, filter, length}
use Rattle.std.specs.Borrow.{Bor}
use Rattle.std.specs.List.{range_with_len}
use Rattle.itch_table.specs.Projection.{payload_at}

-- the numbers, from 1, of a day's messages whose payloads a predicate keeps, rising
abbrev pub numbers_where : List (List ℕ) → (List ℕ → Bool) → List ℕ
numbers_where day kept = filter (λ n. kept (payload_at day n)) (range_with_len 1 (length day))

-- every call at a payload returns what a predicate says of it
abbrev pub Computes : (Bor (List ℕ) → Bool → Type 0) → (List ℕ → Bool) → Type 0
Computes call kept = (payload : Bor (List ℕ)) (found : Bool) → call payload found → found ≡ kept payload.now
