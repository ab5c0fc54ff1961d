-- The order of the lines of a text: which line may stand where. The rules are of this project.
use Rattle.std.specs.Prelude.{List, [], ◌∷◌, Option, Some, None, option_and_then}
use Rattle.itch_text.specs.Items.{Item, Nothing, Entry, End, Cut, Rest}
use Rattle.itch_text.specs.declared.place.Place.{Place}
use Rattle.itch_text.specs.declared.place.Place.TheVariants.{Entries, Ended, Closed}

-- the kinds of items that may stand in some places only: an entry, the end marker, less than a whole entry, and bytes
-- after the marker
pub data ItemKind : Type 0 where
  EntryKind : ItemKind
  EndKind : ItemKind
  CutKind : ItemKind
  RestKind : ItemKind

-- Where the line after an item of this kind stands, if the item may stand at this place: entries come first; then the
-- end marker and at most one line of further bytes, or less than a whole entry alone.
abbrev pub next_place : Place → ItemKind → Option Place
next_place Entries EntryKind = Some Entries
next_place Entries EndKind = Some Ended
next_place Entries CutKind = Some Closed
next_place Ended RestKind = Some Closed
next_place _ _ = None

-- where the line after an item stands, if the item may stand at this place; nothing may stand anywhere
abbrev pub place_after : Place → Item → Option Place
place_after place Nothing = Some place
place_after place (Entry payload) = next_place place EntryKind
place_after place End = next_place place EndKind
place_after place (Cut bytes) = next_place place CutKind
place_after place (Rest bytes) = next_place place RestKind

-- where the line after items stands, if they may stand in this order from this place on
abbrev pub place_after_all : Place → List Item → Option Place
place_after_all place [] = Some place
place_after_all place (item ∷ items) =
    option_and_then (λ next. place_after_all next items) (place_after place item)
