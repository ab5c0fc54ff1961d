-- What a fault of the assembler says of a text. The faults are of this project.
use Rattle.std.specs.Prelude.{ℕ, List}
use Rattle.itch_text.specs.Text.{Text}
use Rattle.itch_text.specs.Faults.{IsFirstFault}
use Rattle.itch_text.specs.declared.fault.LineFault.TheVariants.{Mnemonic as WrongMnemonic, Field as WrongField, AfterEnd as WrongPlace}
use Rattle.itch_text.specs.declared.assembler.AsmFault.{AsmFault}
use Rattle.itch_text.specs.declared.assembler.AsmFault.TheVariants.{Memory, Mnemonic, Field, AfterEnd}

-- a fault names the first faulty line of the text; a refusal of memory says nothing of the text
abbrev pub Blames : List ℕ → AsmFault → Type 0
Blames text Memory = Unit {0}
Blames text (Mnemonic line) = IsFirstFault text line WrongMnemonic
Blames text (Field line) = IsFirstFault text line WrongField
Blames text (AfterEnd line) = IsFirstFault text line WrongPlace

-- the text denotes no bytes
abbrev pub DenotesNothing : List ℕ → Type 0
DenotesNothing text = (bytes : List ℕ) → Text text bytes → ⊥
