-- The words of a line. The form is of this project.
use Rattle.std.specs.Prelude.{◌==◌, ℕ, Bool, true, false, not, if◌then◌else◌, List, [], ◌∷◌}
use Rattle.std.specs.List.{filter, onto_first}
use Rattle.itch_text.specs.Characters.{space, quote_mark}

-- a byte isn't the space
abbrev pub is_no_space : ℕ → Bool
is_no_space b = not (b == space)

-- the pieces of a line that spaces separate; a space between quotes separates nothing
unfoldable pub pieces : Bool → List ℕ → List (List ℕ)
pieces quoted [] = [] ∷ []
pieces true (b ∷ bs) = onto_first b (pieces (not (b == quote_mark)) bs)
pieces false (b ∷ bs) =
    if b == space then [] ∷ pieces false bs else onto_first b (pieces (b == quote_mark) bs)

-- a piece that has bytes is a word
abbrev pub is_word : List ℕ → Bool
is_word [] = false
is_word (b ∷ bs) = true

-- the words of a line: one space or more may stand before them, between them and after them
unfoldable pub words : List ℕ → List (List ℕ)
words line = filter is_word (pieces false line)
