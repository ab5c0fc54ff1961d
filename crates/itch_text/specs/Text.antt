-- Which bytes a text denotes. The text form is of this project.
use Rattle.std.specs.Prelude.{◌≡◌, ℕ, ◌==◌, Bool, IsSome, List, [], ◌∷◌}
use Rattle.std.specs.List.{slice_split, flat_map}
use Rattle.itch_text.specs.Characters.{line_feed}
use Rattle.itch_text.specs.Items.{Item, Line, item_bytes}
use Rattle.itch_text.specs.Order.{place_after_all}
use Rattle.itch_text.specs.declared.place.Place.TheVariants.{Entries}

-- a byte is the line feed
abbrev pub is_line_feed : ℕ → Bool
is_line_feed b = b == line_feed

-- the lines of a text; what follows the last line feed is a line too, which denotes nothing where it is empty
abbrev pub lines_of : List ℕ → List (List ℕ)
lines_of text = slice_split is_line_feed text

-- each line denotes its item
abbrev pub Lines : List (List ℕ) → List Item → Type 0
Lines [] [] = Unit {0}
Lines (line ∷ lines) (item ∷ items) = Line line item × Lines lines items
Lines _ _ = ⊥

-- each line denotes an item, the items may stand in their order, and the bytes are theirs
pub record Text (text bytes : List ℕ) : Type 0 where
  pub items : List Item
  pub denoted : Lines (lines_of text) items
  pub ordered : IsSome (place_after_all Entries items)
  pub whole : bytes ≡ flat_map item_bytes items

-- a text denotes at most one string of bytes
abbrev pub HasOneMeaning : Type 0
HasOneMeaning = (text a b : List ℕ) → Text text a → Text text b → a ≡ b
