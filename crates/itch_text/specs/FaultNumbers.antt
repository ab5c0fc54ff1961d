-- The fixed numbers of the faults of the assembler. They are of this project.
use Rattle.std.specs.Prelude.{ℕ}
use Rattle.itch_text.specs.declared.assembler.AsmFault.{AsmFault}
use Rattle.itch_text.specs.declared.assembler.AsmFault.TheVariants.{Memory, Mnemonic, Field, AfterEnd}

abbrev pub number_of : AsmFault → ℕ
number_of Memory = 1
number_of (Mnemonic line) = 2
number_of (Field line) = 3
number_of (AfterEnd line) = 4
