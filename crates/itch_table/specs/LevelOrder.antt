-- The order of a side's levels. All is of this project.
use Rattle.std.specs.Prelude.{◌<◌, List}
use Rattle.std.specs.List.{AllPairs}
use Rattle.itch_table.specs.declared.order.Level.{Level}
use Rattle.itch_table.specs.declared.order.Order.{Order}
use Rattle.itch_table.specs.declared.order.Side.{Side}
use Rattle.itch_table.specs.declared.order.Side.TheVariants.{Buy, Sell}
use Rattle.itch_table.specs.Levels.{levels}

-- a level is better than another of its side: a bid at a greater price, an ask at a smaller one
abbrev pub IsBetter : Side → Level → Level → Type 0
IsBetter Buy level other = other.price < level.price
IsBetter Sell level other = level.price < other.price

-- each of a side's levels is better than all that come after it
abbrev pub BetterLevelsFirst : Type 0
BetterLevelsFirst = (orders : List Order) (side : Side) → AllPairs (IsBetter side) (levels orders side)
