-- The fixed numbers of the faults of a debugger's moves. They are of this project.
use Rattle.std.specs.Prelude.{ℕ}
use Rattle.debugger.specs.declared.debugging.DebugFault.{DebugFault}
use Rattle.debugger.specs.declared.debugging.DebugFault.TheVariants.{Memory, PastEnd, BeforeStart}

abbrev pub number_of : DebugFault → ℕ
number_of Memory = 1
number_of PastEnd = 2
number_of BeforeStart = 3
