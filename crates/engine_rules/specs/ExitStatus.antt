-- The exit status of the program, by what its engine returned. The numbers are of this project.
use Rattle.std.specs.Prelude.{ℕ, zero, suc, Result, Ok, Err}
use Rattle.engine_rules.specs.declared.fault.ProgFault.{ProgFault}
use Rattle.engine_rules.specs.declared.fault.ProgFault.TheVariants.{Memory, Read, TooManyBytes, TooManyMessages, BadHex, Write, Asm}
use Rattle.itch_text.specs.declared.assembler.AsmFault.{AsmFault}
use Rattle.itch_text.specs.declared.assembler.AsmFault.TheVariants.{Memory as AsmMemory, Mnemonic, Field, AfterEnd}

-- 4 where memory was refused, and 5 for a faulty line
abbrev pub asm_status : AsmFault → ℕ
asm_status AsmMemory = 4
asm_status (Mnemonic line) = 5
asm_status (Field line) = 5
asm_status (AfterEnd line) = 5

-- 4 where memory was refused, 5 for a faulty line of a text, and 3 for input or output that failed and input that can't
-- be taken
abbrev pub fault_status : ProgFault → ℕ
fault_status Memory = 4
fault_status Read = 3
fault_status TooManyBytes = 3
fault_status TooManyMessages = 3
fault_status BadHex = 3
fault_status Write = 3
fault_status (Asm fault) = asm_status fault

-- 0 where no message was refused, and 1 where some were
abbrev pub refused_status : ℕ → ℕ
refused_status zero = 0
refused_status (suc more) = 1

-- the status that a program ends with, by what its engine returned
abbrev pub exit_status : Result ℕ ProgFault → ℕ
exit_status (Ok refused) = refused_status refused
exit_status (Err fault) = fault_status fault
