-- The first faulty line of a text. The faults are of this project.
use Rattle.std.specs.Prelude.{◌≡◌, ℕ, suc, Bool, false, eqb, if◌then◌else◌, List, [], ◌∷◌, ◌++◌, length, codes, Option, Some, None}
use Rattle.std.specs.Cmp.Lexicographic.{pointwise}
use Rattle.itch_layouts.specs.Layouts.{Layout, layout_of_mnemonic}
use Rattle.itch_text.specs.Words.{words}
use Rattle.itch_text.specs.Items.{Item, Denotes, is_comment}
use Rattle.itch_text.specs.Order.{ItemKind, EntryKind, EndKind, CutKind, RestKind, next_place, place_after_all}
use Rattle.itch_text.specs.Text.{Lines, lines_of}
use Rattle.itch_text.specs.declared.place.Place.{Place}
use Rattle.itch_text.specs.declared.place.Place.TheVariants.{Entries}
use Rattle.itch_text.specs.declared.fault.LineFault.{LineFault}
use Rattle.itch_text.specs.declared.fault.LineFault.TheVariants.{Mnemonic, Field, AfterEnd}

-- the name that a line begins with: a mnemonic, or one of four words
pub data Name : Type 0 where
  Message : Layout → Name
  RawName : Name
  EndName : Name
  CutName : Name
  RestName : Name

-- the word is this name
abbrev pub is : List ℕ → List ℕ → Bool
is name word = pointwise eqb name word

-- the name of a line of no message that a word is
abbrev pub word_name : List ℕ → Option Name
word_name word =
    if is (codes "raw") word then Some RawName else
    if is (codes "end") word then Some EndName else
    if is (codes "cut") word then Some CutName else
    if is (codes "rest") word then Some RestName else None

abbrev pub name_or : Option Layout → Option Name → Option Name
name_or (Some layout) other = Some (Message layout)
name_or None other = other

-- the name that a word is
unfoldable pub name_of : List ℕ → Option Name
name_of word = name_or (layout_of_mnemonic word) (word_name word)

-- the kind of the item that a line of this name denotes
abbrev pub kind_of_name : Name → ItemKind
kind_of_name (Message layout) = EntryKind
kind_of_name RawName = EntryKind
kind_of_name EndName = EndKind
kind_of_name CutName = CutKind
kind_of_name RestName = RestKind

-- the fault of a line by where the next line stands, if this one may stand where it does: it may not, or it may and
-- denotes nothing
abbrev pub IsWrongWhereItStands : Option Place → List (List ℕ) → LineFault → Type 0
IsWrongWhereItStands None line fault = fault ≡ AfterEnd
IsWrongWhereItStands (Some next) line fault = (fault ≡ Field) × ((item : Item) → Denotes line item → ⊥)

-- the fault of a line by the name that it begins with, if it has one
abbrev pub IsWrongByName : Place → Option Name → List (List ℕ) → LineFault → Type 0
IsWrongByName place None line fault = fault ≡ Mnemonic
IsWrongByName place (Some name) line fault =
    IsWrongWhereItStands (next_place place (kind_of_name name)) line fault

-- the fault of a line at a place: it has no name; else it may not stand there; else it denotes nothing
abbrev pub IsWrong : Place → List (List ℕ) → LineFault → Type 0
IsWrong place [] fault = ⊥
IsWrong place (w ∷ ws) fault = (is_comment w ≡ false) × IsWrongByName place (name_of w) (w ∷ ws) fault

-- The first faulty line, counted from 1: the lines before it denote items in order, and it is wrong at the place after
-- them.
pub record IsFirstFault (text : List ℕ) (number : ℕ) (fault : LineFault) : Type 0 where
  pub before : List (List ℕ)
  pub line : List ℕ
  pub rest : List (List ℕ)
  pub items : List Item
  pub place : Place
  pub split : lines_of text ≡ before ++ line ∷ rest
  pub counted : number ≡ suc (length before)
  pub denoted : Lines before items
  pub ordered : place_after_all Entries items ≡ Some place
  pub wrong : IsWrong place (words line) fault

-- a text has at most one first faulty line, and that line has one fault
abbrev pub HasOneFirstFault : Type 0
HasOneFirstFault =
    (text : List ℕ) (m n : ℕ) (f g : LineFault)
    → IsFirstFault text m f → IsFirstFault text n g → (m ≡ n) × (f ≡ g)
