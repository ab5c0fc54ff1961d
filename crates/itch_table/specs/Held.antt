-- Rows that the table can be followed over, as a world: those of all stocks, or of one.
use Rattle.std.specs.Prelude.{◌≡◌, ℕ, Option, Some, None}
use Rattle.itch_table.specs.declared.outcome.Part.{Part}
use Rattle.itch_table.specs.declared.outcome.Part.TheVariants.{Locate, Nowhere}
use Rattle.itch_table.specs.World.{World}

-- a world, with the locate code of the one stock whose rows are held, or none where those of all stocks are
pub record Held : Type 0 where
  pub own : Option ℕ
  pub world : World

-- the rows of all stocks
abbrev pub all_stocks : World → Held
all_stocks world = record { own = None; world = world }

-- the rows of one stock
abbrev pub one_stock : ℕ → World → Held
one_stock own world = record { own = Some own; world = world }

-- the world changes, and whose rows are held stays
abbrev pub on_world : (World → World) → Held → Held
on_world change held = record { own = held.own; world = change held.world }

-- the stock is the one whose rows are held, or the rows of all stocks are
abbrev pub IsOwn : Option ℕ → ℕ → Type 0
IsOwn None locate = Unit {0}
IsOwn (Some own) locate = locate ≡ own

-- the stock's rows are held
abbrev pub Holds : Held → ℕ → Type 0
Holds held locate = IsOwn held.own locate

-- the rows that a message may read and change are held: those of its stock, or of all stocks where it is of none
abbrev pub HoldsPart : Held → Part → Type 0
HoldsPart held (Locate locate) = Holds held locate
HoldsPart held (Nowhere outcome) = held.own ≡ None
