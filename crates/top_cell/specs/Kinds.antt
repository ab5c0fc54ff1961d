-- The nine kinds of step.
use Rattle.std.specs.Prelude.{◌≡◌, [], ℕ, List, ◌+◌, ◌%◌, ◌≤◌, Some, None, ◌<◌, ◌∷◌, ◌++◌, length, ◌≢◌, max}
use Rattle.top_cell.specs.Rule.{rest, change, number_in, sight, ShowsOf, new_sight}
use Rattle.top_cell.specs.declared.rule.DayStock.{DayStock}
use Rattle.top_cell.specs.declared.rule.View.{View}
use Rattle.top_cell.specs.declared.rule.View.TheVariants.{WriterOf, Writing, ScreenOf, Unopened, Spent}
use Rattle.top_cell.specs.declared.rule.Sight.{Sight}

-- ---- Open: the first seat of a new cell becomes that of its writer, which stands at no message and has noted nothing.

-- a writer's view before the first message, where it has noted nothing
abbrev pub first_view : DayStock → View
first_view stock = WriterOf stock (rest 0 [])

-- the seat is that of this stock's writer
abbrev pub Opened : DayStock → View → View → Type 0
Opened stock before after = after ≡ first_view stock

-- ---- Writer begins: the count goes up by one, the writer will put four new words, and it notes what is known at each
-- seat. The step says that there are notes; its proof takes what is known at each seat now, and the rule allows no
-- others of the counts that a screen has loaded.

-- the writer has some old words and some notes, is to put these new words, and has put none
abbrev pub WriterBegun : List ℕ → View → View → Type 0
WriterBegun new (WriterOf stock at) after =
    (old : List ℕ) × (noted : List Sight) × (after ≡ Writing stock (change at.number old new 0 noted))
WriterBegun new _ after = ⊥

-- ---- Writer puts a word: the next of the new words is stored.

-- the writer has put one word more
abbrev pub WriterHasPut : View → View → Type 0
WriterHasPut (Writing stock x) after = after ≡ Writing stock (change x.number x.old x.new (x.put + 1) x.noted)
WriterHasPut _ after = ⊥

-- ---- Writer ends: the count goes up by one, where all four words were put. The writer stands at their number, and notes
-- what is known at each seat, as when it begins.

-- the writer stands at the number of the new words, with some notes
abbrev pub WriterEnded : View → View → Type 0
WriterEnded (Writing stock x) after =
    (noted : List Sight) × (after ≡ WriterOf stock (rest (number_in x.new) noted))
WriterEnded _ after = ⊥

-- ---- Reader begins: a screen without an open try loads the count, and where it is even opens a try. That is one load
-- more. The count is no lower than the last one that the screen has loaded, nor than the one at which its last try
-- began.

-- the count is the last that the screen has loaded, and where it is even a try began at it, which has taken no
-- words
abbrev pub ReaderBegun : ℕ → View → View → Type 0
ReaderBegun count (ScreenOf stock v) after =
    (v.taken ≡ None) × (v.last ≤ count) × (v.began ≤ count)
    × (count % 2 ≡ 0 → after
    ≡ ScreenOf stock (sight v.number (v.loads + 1) (v.looks + 1) (v.tries + 1) v.wins count count (Some [])))
    × (count % 2 ≡ 1 → after
    ≡ ScreenOf stock (sight v.number (v.loads + 1) (v.looks + 1) v.tries v.wins count v.began None))
ReaderBegun count _ after = ⊥

-- ---- Reader takes a word: in an open try of fewer than four words a screen loads the next one. That is one load more.

-- the try has the word that was loaded after those that it had
abbrev pub ReaderTook : ℕ → View → View → Type 0
ReaderTook word (ScreenOf stock v) after =
    (words : List ℕ) × (v.taken ≡ Some words) × (length words < 4)
    × (after ≡ ScreenOf stock
    (sight v.number (v.loads + 1) v.looks v.tries v.wins v.last v.began (Some (words ++ word ∷ []))))
ReaderTook word _ after = ⊥

-- ---- Reader ends: a screen with an open try of four words loads the count and closes the try. That is one load more.
-- The count is no lower than the last one that the screen has loaded, nor than the one at which the try began.
-- Where the count is still the one at which the try began, its words show the screen's stock, at a number that is
-- no lower than the screen's, and the screen stands at that number.

-- the try of these words is closed: won where the count is still the same, and else lost
abbrev pub ReaderEnded : ℕ → View → View → Type 0
ReaderEnded count (ScreenOf stock v) after =
    (words : List ℕ) × (v.taken ≡ Some words) × (length words ≡ 4) × (v.began ≤ count) × (v.last ≤ count)
    × (count ≡ v.began
    → ShowsOf stock (number_in words) words × (v.number ≤ number_in words)
    × (after ≡ ScreenOf stock
    (sight (number_in words) (v.loads + 1) (v.looks + 1) v.tries (v.wins + 1) count v.began None)))
    × (count ≢ v.began
    → after ≡ ScreenOf stock (sight v.number (v.loads + 1) (v.looks + 1) v.tries v.wins count v.began None))
ReaderEnded count _ after = ⊥

-- ---- Split: beside itself a writer or a screen gives a screen of its stock, which stands at the same message and
-- has made no loads.

-- the screen that a view gives beside itself
abbrev pub screen_beside : View → View
screen_beside Unopened = Spent
screen_beside (WriterOf stock at) = ScreenOf stock (new_sight at.number)
screen_beside (Writing stock x) = ScreenOf stock (new_sight x.number)
screen_beside (ScreenOf stock v) = ScreenOf stock (new_sight v.number)
screen_beside Spent = Spent

-- ---- Join: two screens of a cell become one, which stands at the later of their messages and has the loads of
-- the one that stays. The other's view is spent.

-- the screen that two become, of which the first stays
abbrev pub joined : View → View → View
joined (ScreenOf stock v) (ScreenOf other w) =
    ScreenOf stock (sight (max v.number w.number) v.loads v.looks v.tries v.wins v.last v.began v.taken)
joined v w = v
