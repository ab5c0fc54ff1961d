-- The fixed numbers of the faults of loading. They are of this project.
use Rattle.std.specs.Prelude.{ℕ}
use Rattle.binaryfile.specs.declared.load.LoadFault.{LoadFault}
use Rattle.binaryfile.specs.declared.load.LoadFault.TheVariants.{Memory, Read, TooManyBytes, TooManyMessages}

abbrev pub number_of : LoadFault → ℕ
number_of Memory = 1
number_of Read = 2
number_of TooManyBytes = 3
number_of TooManyMessages = 4
