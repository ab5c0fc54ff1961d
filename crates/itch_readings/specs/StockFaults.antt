-- The exit status of the program for a fault of an engine of one stock. The numbers are of this project.
use Rattle.std.specs.Prelude.{ℕ}
use Rattle.engine_rules.specs.ExitStatus.{fault_status}
use Rattle.itch_readings.specs.declared.fault.StockFault.{StockFault}
use Rattle.itch_readings.specs.declared.fault.StockFault.TheVariants.{NoStock, PastEnd, Changed, Engine}

-- 2 for a stock or a message that isn't in the day, 3 for a file that changed
abbrev pub status_of : StockFault → ℕ
status_of NoStock = 2
status_of PastEnd = 2
status_of Changed = 3
status_of (Engine fault) = fault_status fault
