-- Notes of a stock that is named, as far as a day was read. All is of this project.
use Rattle.std.specs.Prelude.{◌≡◌, ◌+◌, ◌≤◌, ℕ, List, [], ◌∷◌, ◌++◌, length, Option, Some, None}
use Rattle.itch_table.specs.After.{after}
use Rattle.itch_table.specs.Projection.{only}
use Rattle.itch_table.specs.Table.{step}
use Rattle.stock_machine.specs.StockRows.{StockMachine}
use Rattle.itch_readings.specs.Naming.{NamesStock}
use Rattle.itch_readings.specs.OwnMessages.{OwnMessage, next_message, own_from}
use Rattle.itch_readings.specs.Searching.{HasSearched, Search}
use Rattle.itch_readings.specs.declared.naming.StockName.{StockName}

-- How notes come from others by the messages that were noted.
abbrev pub Noting : Type 0 → Type 1
Noting N = N → N → List OwnMessage → Type 0

-- a stock's machine took the stock's next message, and it was noted
pub record NotesNext {N : Type 0} (AreOf : Noting N) (number : ℕ) (payload : List ℕ)
    (stock next : StockMachine) (notes more : N) : Type 0 where
  pub locate : next.locate ≡ stock.locate
  pub world : next.world ≡ (step stock.world payload).1
  pub steps : next.steps ≡ stock.steps + 1
  pub noted : (first : N) (before : List OwnMessage)
      → AreOf first notes before → AreOf first more (before ++ next_message number payload stock ∷ [])

-- the machine has taken the stock's messages of a day, and those from message n on were noted
pub record HasNoted {N : Type 0} (AreOf : Noting N) (first : N) (day : List (List ℕ)) (n : ℕ)
    (stock : StockMachine) (notes : N) : Type 0 where
  pub world : stock.world ≡ only stock.locate (after day (length day))
  pub steps : stock.steps ≤ length day
  pub noted : AreOf first notes (own_from day stock.locate n)

-- the stock hasn't begun and nothing was noted, or it has begun with one of the day's messages
abbrev pub NotesSoFar : {N : Type 0} → Noting N → N → List (List ℕ) → Search → Option StockMachine → N
    → Type 0
NotesSoFar AreOf first day search None notes = HasSearched day search × AreOf first notes []
NotesSoFar AreOf first day search (Some stock) notes =
    (n : ℕ) × NamesStock day search.name n stock.locate × HasNoted AreOf first day n stock notes

-- so many messages of a day were taken, and those of the stock with this name were noted
pub record HasTaken {N : Type 0} (AreOf : Noting N) (first : N) (day : List (List ℕ)) (name : StockName)
    (search : Search) (messages : ℕ) (stock : Option StockMachine) (notes : N) : Type 0 where
  pub name_is : search.name ≡ name
  pub counted : messages ≡ length day
  pub so_far : NotesSoFar AreOf first day search stock notes

-- with the next payload the stock hasn't begun either, or it begins with it, or it has begun before: the notes are those of
-- the day as it was
abbrev pub NotesBefore : {N : Type 0} → Noting N → N → List (List ℕ) → List ℕ → Search
    → Option StockMachine → N → Type 0
NotesBefore AreOf first day payload search None notes =
    HasSearched (day ++ payload ∷ []) search × AreOf first notes []
NotesBefore AreOf first day payload search (Some stock) notes =
    (n : ℕ) × NamesStock (day ++ payload ∷ []) search.name n stock.locate
    × HasNoted AreOf first day n stock notes

-- the next payload was counted and looked at, and is still to be noted
pub record TakesNext {N : Type 0} (AreOf : Noting N) (first : N) (day : List (List ℕ)) (payload : List ℕ)
    (name : StockName) (search : Search) (messages : ℕ) (stock : Option StockMachine)
    (notes : N) : Type 0 where
  pub name_is : search.name ≡ name
  pub counted : messages ≡ length day + 1
  pub so_far : NotesBefore AreOf first day payload search stock notes
