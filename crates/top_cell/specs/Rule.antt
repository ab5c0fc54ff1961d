-- The rule of a cell: what its count and its four words are at every moment, and what its writer and its screens
-- know. The count is odd while the writer changes the words. All is of this project.
use Rattle.std.specs.Prelude.{◌≡◌, ◌⊎◌, ◌+◌, ◌*◌, ◌%◌, ◌<◌, ◌≤◌, ℕ, Bool, true, false, List, [], ◌∷◌, ◌++◌, length, take, drop, slice_index, slice_index_or, Option, Some, None}
use mathlib.Core.Option.{some}
use lib.ListN.{get_elem?}
use Rattle.atomic_table.specs.Table.{State, Me}
use Rattle.itch_table.specs.Shows.{Shows}
use Rattle.top_cell.specs.declared.rule.DayStock.{DayStock}
use Rattle.top_cell.specs.declared.rule.Change.{Change}
use Rattle.top_cell.specs.declared.rule.Rest.{Rest}
use Rattle.top_cell.specs.declared.rule.Sight.{Sight}
use Rattle.top_cell.specs.declared.rule.View.{View}
use Rattle.top_cell.specs.declared.rule.View.TheVariants.{Unopened, WriterOf, Writing, ScreenOf, Spent}

-- a stock of a day, by its locate code
abbrev pub day_stock : List (List ℕ) → ℕ → DayStock
day_stock day locate = record { day = day; locate = locate }

-- the count and the four words of a cell that isn't opened yet
abbrev pub zeros : List ℕ
zeros = 0 ∷ 0 ∷ 0 ∷ 0 ∷ 0 ∷ []

-- the number of messages that four words are of
abbrev pub number_in : List ℕ → ℕ
number_in words = slice_index words 0

-- the words show this stock after this many messages
abbrev pub ShowsOf : DayStock → ℕ → List ℕ → Type 0
ShowsOf stock n words = Shows stock.day stock.locate n words

-- what a screen knows
abbrev pub sight : ℕ → ℕ → ℕ → ℕ → ℕ → ℕ → ℕ → Option (List ℕ) → Sight
sight number loads looks tries wins last began taken = record {
  number = number;
  loads = loads;
  looks = looks;
  tries = tries;
  wins = wins;
  last = last;
  began = began;
  taken = taken;
}

-- what a screen knows that stands at a number and has made no loads
abbrev pub new_sight : ℕ → Sight
new_sight number = sight number 0 0 0 0 0 0 None

-- ---- what a writer and a screen know

-- what was noted of a seat, of which nothing is known where it is a later one
abbrev pub note_of : List Sight → ℕ → Sight
note_of noted seat = slice_index_or noted seat (new_sight 0)

-- what a screen has found at a count that it loaded: it has loaded no such count since the note, or what it found
-- then is what stands now
abbrev pub IsNotedOrNow : ℕ → ℕ → ℕ → ℕ → ℕ → Type 0
IsNotedOrNow noted_times noted times found now =
    ((times ≡ noted_times) × (found ≡ noted)) ⊎ ((noted_times < times) × (found ≡ now))

-- the same of the number that a screen has read, which a join may have raised since
abbrev pub IsAboveNoteOrNow : ℕ → ℕ → ℕ → ℕ → ℕ → Type 0
IsAboveNoteOrNow noted_times noted times found now =
    ((times ≡ noted_times) × (noted ≤ found)) ⊎ ((noted_times < times) × (found ≡ now))

-- the words of an open try are the first words of the cell, while the count is still the one at which it began
abbrev pub TriesFit : ℕ → List ℕ → Sight → Type 0
TriesFit count shown v =
    (words : List ℕ) → v.taken ≡ Some words → count ≡ v.began → words ≡ take (length words) shown

-- a writer in the middle of a change: the old words show its number and the new ones a later number. The words of
-- the cell are the new ones as far as they were put, and then the old ones.
pub record Changes (stock : DayStock) (count : ℕ) (shown : List ℕ) (number : ℕ) (x : Change) : Type 0 where
  pub odd : count % 2 ≡ 1
  pub bound : count ≤ 2 * number + 1
  pub stands : x.number ≡ number
  pub old : ShowsOf stock number x.old
  pub new : ShowsOf stock (number_in x.new) x.new
  pub later : number < number_in x.new
  pub some_put : x.put ≤ 4
  pub mixed : shown ≡ take x.put x.new ++ drop x.put x.old

-- a screen: its number is no higher than the writer's, and no count that it has loaded is higher than the cell's. The
-- count only changes where the writer notes what the screen knows, so what the screen has found since is what stands
-- now: the count that it loaded last, the one at which its last try began, and the number that it read.
pub record Sees (count : ℕ) (shown : List ℕ) (number : ℕ) (note v : Sight) : Type 0 where
  pub below : v.number ≤ number
  pub last : v.last ≤ count
  pub began : v.began ≤ count
  pub even : v.began % 2 ≡ 0
  pub fit : TriesFit count shown v
  pub looked : IsNotedOrNow note.looks note.last v.looks v.last count
  pub tried : IsNotedOrNow note.tries note.began v.tries v.began count
  pub won : IsAboveNoteOrNow note.wins note.number v.wins v.number number

-- what is known at a seat of an open cell with this count and these words, whose writer stands at a number, has a
-- seat, and has noted what was known at each seat
module _ (stock : DayStock) (count : ℕ) (shown : List ℕ) (number writer : ℕ) (noted : List Sight) where
  abbrev pub Fits : ℕ → View → Type 0
  Fits seat Unopened = ⊥
  Fits seat (WriterOf own at) =
      (seat ≡ writer) × (own ≡ stock) × (at.number ≡ number) × (count % 2 ≡ 0) × (at.noted ≡ noted)
  Fits seat (Writing own x) =
      (seat ≡ writer) × (own ≡ stock) × Changes stock count shown number x × (x.noted ≡ noted)
  Fits seat (ScreenOf own v) = (own ≡ stock) × Sees count shown number (note_of noted seat) v
  Fits seat Spent = Unit {0}

-- the view is the writer's
abbrev pub is_writers : View → Bool
is_writers (WriterOf own at) = true
is_writers (Writing own x) = true
is_writers _ = false

-- ---- the rule

-- a cell that is open: while the count is even, its words show its stock after as many messages as its writer's
-- number, and the count is at most twice that. One view is the writer's, and each view fits.
pub record IsOpen (words : List ℕ) (views : List View) : Type 0 where
  pub stock : DayStock
  pub count : ℕ
  pub shown : List ℕ
  pub number : ℕ
  pub writer : ℕ
  pub noted : List Sight
  pub are : words ≡ count ∷ shown
  pub four : length shown ≡ 4
  pub at_rest : count % 2 ≡ 0 → ShowsOf stock number shown × (count ≤ 2 * number)
  pub one_writer : (v : View) × (get_elem? views writer ≡ some v) × (is_writers v ≡ true)
  pub few_noted : length noted ≤ length views
  pub each : (seat : ℕ) (v : View) → get_elem? views seat ≡ some v
      → Fits stock count shown number writer noted seat v

-- the words and the views of a cell: it isn't opened yet, has zeros and one seat, or it is open
pub data CellHolds (words : List ℕ) (views : List View) : Type 0 where
  new_cell : words ≡ zeros → views ≡ Unopened ∷ [] → CellHolds words views
  open_cell : IsOpen words views → CellHolds words views

-- the rule of a cell
abbrev pub CellRule : {S : Type 0} → State S View → Type 0
CellRule s = CellHolds s.words s.views

-- a step changes the view of its seat as `by` says, and no slot
abbrev pub Turns : {S : Type 0} → (View → View → Type 0) → Me S View → Me S View → Type 0
Turns by m n = by m.0 n.0 × (n.1 ≡ m.1)

-- ---- parts of a view

-- what a writer knows outside any change
abbrev pub rest : ℕ → List Sight → Rest
rest number noted = record { number = number; noted = noted }

-- what a writer knows during a change that has put this many words
abbrev pub change : ℕ → List ℕ → List ℕ → ℕ → List Sight → Change
change number old new put noted = record { number = number; old = old; new = new; put = put; noted = noted }

-- the stock of a writer or of a screen
abbrev pub stock_of : View → DayStock
stock_of Unopened = day_stock [] 0
stock_of (WriterOf stock at) = stock
stock_of (Writing stock x) = stock
stock_of (ScreenOf stock v) = stock
stock_of Spent = day_stock [] 0

-- the number of the message at which a writer or a screen stands
abbrev pub number_of : View → ℕ
number_of Unopened = 0
number_of (WriterOf stock at) = at.number
number_of (Writing stock x) = x.number
number_of (ScreenOf stock v) = v.number
number_of Spent = 0

-- what a writer knows outside any change
abbrev pub rest_of : View → Rest
rest_of (WriterOf stock at) = at
rest_of _ = rest 0 []

-- what a writer knows in the middle of a change
abbrev pub change_of : View → Change
change_of (Writing stock x) = x
change_of _ = change 0 [] [] 0 []

-- what a screen knows
abbrev pub sight_of : View → Sight
sight_of (ScreenOf stock v) = v
sight_of _ = new_sight 0

-- a writer's view outside any change
abbrev pub IsIdle : View → Type 0
IsIdle v = v ≡ WriterOf (stock_of v) (rest_of v)

-- a writer's view in the middle of a change
abbrev pub IsWriting : View → Type 0
IsWriting v = v ≡ Writing (stock_of v) (change_of v)

-- a screen's view outside any try
abbrev pub IsScreen : View → Type 0
IsScreen v = (v ≡ ScreenOf (stock_of v) (sight_of v)) × ((sight_of v).taken ≡ None)
