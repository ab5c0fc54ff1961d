-- A stock's own messages of a day, and the copies of its machine that are kept along them. All is of this
-- project.
use Rattle.std.specs.Prelude.{◌≡◌, ◌<◌, ◌+◌, ◌*◌, ◌/◌, [], ℕ, List, length, map, slice_index_or, take}
use Rattle.std.specs.List.{range_with_len}
use Rattle.itch_table.specs.Projection.{is_of_stock}
use Rattle.day_core.specs.Owners.{last_or, machine_of}
use Rattle.stock_machine.specs.StockRows.{StockMachine}
use Rattle.checkpoints.specs.Filtering.{numbers_where}

-- the numbers of a stock's messages in a day, rising
unfoldable pub numbers_of : List (List ℕ) → ℕ → List ℕ
numbers_of day locate = numbers_where day (is_of_stock locate)

-- a stock's machine after the first count of its own messages
unfoldable pub machine_after_own : List (List ℕ) → ℕ → ℕ → StockMachine
machine_after_own day locate count = machine_of day locate (last_or 0 (take count (numbers_of day locate)))

-- a stock's machine before its first message, and after every `every` of its own messages
unfoldable pub copies_of : List (List ℕ) → ℕ → ℕ → List StockMachine
copies_of day locate every =
    map (λ k. machine_after_own day locate (k * every))
    (range_with_len 0 (length (numbers_of day locate) / every + 1))

-- the numbers in the list of a locate code, none where there is no list
abbrev pub listed : List (List ℕ) → ℕ → List ℕ
listed lists locate = slice_index_or lists locate []

-- each stock's messages stand in the list of its locate code
abbrev pub IsIndex : List (List ℕ) → List (List ℕ) → Type 0
IsIndex day lists = (locate : ℕ) → listed lists locate ≡ numbers_of day locate

-- what a track is seen as: the day, the stock's locate code, and how many of its messages lie from one copy to
-- the next
pub record Tracked : Type 0 where
  pub day : List (List ℕ)
  pub locate : ℕ
  pub every : ℕ

-- the stock's messages are kept by their numbers, and a copy of its machine after every `every` of them
pub record IsTrack (day : List (List ℕ)) (locate every : ℕ) (numbers : List ℕ)
    (copies : List StockMachine) : Type 0 where
  pub some : 0 < every
  pub numbers_are : numbers ≡ numbers_of day locate
  pub copies_are : copies ≡ copies_of day locate every
