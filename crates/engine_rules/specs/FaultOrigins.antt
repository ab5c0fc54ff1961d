-- What a fault of loading, of assembling or of hexadecimal decoding is to the program.
use Rattle.binaryfile.specs.declared.load.LoadFault.{LoadFault}
use Rattle.binaryfile.specs.declared.load.LoadFault.TheVariants as load
use Rattle.hex.specs.declared.error.FromHexError.{FromHexError}
use Rattle.hex.specs.declared.error.FromHexError.TheVariants as digits
use Rattle.itch_text.specs.declared.assembler.AsmFault.{AsmFault}
use Rattle.itch_text.specs.declared.assembler.AsmFault.TheVariants as line
use Rattle.engine_rules.specs.declared.fault.ProgFault.{ProgFault}
use Rattle.engine_rules.specs.declared.fault.ProgFault.TheVariants.{Memory, Read, TooManyBytes, TooManyMessages, BadHex, Asm}

-- the fault of an engine, by that of the loader
abbrev pub fault_of_load : LoadFault → ProgFault
fault_of_load load.Memory = Memory
fault_of_load load.Read = Read
fault_of_load load.TooManyBytes = TooManyBytes
fault_of_load load.TooManyMessages = TooManyMessages

-- the fault of an engine, by that of the assembler
abbrev pub fault_of_asm : AsmFault → ProgFault
fault_of_asm line.Memory = Memory
fault_of_asm (line.Mnemonic number) = Asm (line.Mnemonic number)
fault_of_asm (line.Field number) = Asm (line.Field number)
fault_of_asm (line.AfterEnd number) = Asm (line.AfterEnd number)

-- the fault of an engine, by that of hexadecimal input
abbrev pub fault_of_hex : FromHexError → ProgFault
fault_of_hex digits.OutOfMemory = Memory
fault_of_hex digits.OddLength = BadHex
fault_of_hex digits.InvalidStringLength = BadHex
fault_of_hex (digits.InvalidHexCharacter c index) = BadHex
