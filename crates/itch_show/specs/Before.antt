-- A stock before one of a day's messages. All is of this project.
use Rattle.std.specs.Prelude.{◌≡◌, ◌-◌, ◌<◌, ◌≤◌, ℕ, List, length, take, Option, Some, None}
use Rattle.binaryfile.specs.Entries.{Contents}
use Rattle.itch_readings.specs.Noting.{Noting}
use Rattle.itch_readings.specs.OwnMessages.{own_from}
use Rattle.itch_table.specs.After.{after}
use Rattle.itch_table.specs.Projection.{only}
use Rattle.stock_machine.specs.StockRows.{StockMachine}

-- the machine has taken a stock's messages of a day, and all of them were noted
pub record HasTakenOwn {N : Type 0} (AreOf : Noting N) (first : N) (day : List (List ℕ)) (locate : ℕ)
    (stock : StockMachine) (notes : N) : Type 0 where
  pub locate_is : stock.locate ≡ locate
  pub world : stock.world ≡ only locate (after day (length day))
  pub steps : stock.steps ≤ length day
  pub noted : AreOf first notes (own_from day locate 1)

-- the machine has taken the stock's messages before message n of a file; none where the file has too few messages
abbrev pub IsBefore : {N : Type 0} → Noting N → N → ℕ → ℕ → Option (StockMachine × N) → List ℕ → Contents
    → Type 0
IsBefore AreOf first locate n None input file = length file.payloads < n - 1
IsBefore AreOf first locate n (Some found) input file = (n - 1 ≤ length file.payloads)
    × HasTakenOwn AreOf first (take (n - 1) file.payloads) locate found.0 found.1
