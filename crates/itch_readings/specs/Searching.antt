-- The search for a stock that is named, message by message. All is of this project.
use Rattle.std.specs.Prelude.{◌≡◌, ◌+◌, ◌<◌, ℕ, Bool, List, [], ◌∷◌, ◌++◌, length, Option, Some, None, is_some, slice_index_or}
use Rattle.itch_table.specs.After.{after}
use Rattle.itch_table.specs.Projection.{only}
use Rattle.itch_table.specs.World.{directory, empty_world}
use Rattle.itch_readings.specs.Naming.{NamesNone, NamesStock}
use Rattle.itch_readings.specs.declared.naming.StockName.{StockName}
use Rattle.itch_readings.specs.declared.naming.StockName.TheVariants.{Locate, Symbol}

-- the name that is looked for, and by locate code which stocks have a directory row
pub record Search : Type 0 where
  pub name : StockName
  pub listed : List Bool

-- of each stock it is known whether it has a directory row after a day; by a locate code that isn't asked
abbrev pub KnowsRows : List (List ℕ) → StockName → List Bool → Type 0
KnowsRows day (Locate code) listed = Unit {0}
KnowsRows day (Symbol symbol) listed =
    (locate : ℕ) (d : Bool) → locate < 0x1_0000
    → slice_index_or listed locate d ≡ is_some (directory (after day (length day)) locate)

-- the name was looked for in a day, and is that of none of its stocks
pub record HasSearched (day : List (List ℕ)) (search : Search) : Type 0 where
  pub none : NamesNone day search.name
  pub knows : KnowsRows day search.name search.listed

-- a message more: the name is that of no stock yet, or of the stock with this locate code, which begins with the message
-- and had no rows before
abbrev pub FindsNext : List (List ℕ) → List ℕ → Search → Search → Option ℕ → Type 0
FindsNext day payload old new None = HasSearched (day ++ payload ∷ []) new
FindsNext day payload old new (Some locate) =
    NamesStock (day ++ payload ∷ []) old.name (length day + 1) locate
    × (only locate (after day (length day)) ≡ empty_world)
