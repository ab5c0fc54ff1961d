-- What a line of a text is taken for, and what the lines before it were taken for.
use Rattle.std.specs.Prelude.{◌≡◌, ℕ, List, ◌++◌, Some, Result, Ok, Err}
use Rattle.itch_text.specs.Items.{Item, Line, item_bytes}
use Rattle.itch_text.specs.Order.{place_after}
use Rattle.itch_text.specs.Faults.{IsWrong}
use Rattle.itch_text.specs.Words.{words}
use Rattle.itch_text.specs.declared.place.Place.{Place}
use Rattle.itch_text.specs.declared.fault.LineError.{LineError}
use Rattle.itch_text.specs.declared.fault.LineError.TheVariants.{Memory, Wrong}
use Rattle.itch_text.specs.declared.fault.LineFault.TheVariants.{Mnemonic as WrongMnemonic, Field as WrongField, AfterEnd as WrongPlace}
use Rattle.itch_text.specs.declared.assembler.AsmFault.{AsmFault}
use Rattle.itch_text.specs.declared.assembler.AsmFault.TheVariants.{Memory as MemoryRefused, Mnemonic, Field, AfterEnd}

-- the line denotes an item that may stand at the place, its bytes were appended, and the next line stands after it
pub record LineTaken (old new : List ℕ) (place : Place) (line : List ℕ) (next : Place) : Type 0 where
  pub item : Item
  pub denoted : Line line item
  pub ordered : place_after place item ≡ Some next
  pub wrote : new ≡ old ++ item_bytes item

-- the line was taken; or it is wrong where it stands; or memory was refused
abbrev pub TakesLine : List ℕ → List ℕ → Place → List ℕ → Result Place LineError → Type 0
TakesLine old new place line (Ok next) = LineTaken old new place line next
TakesLine old new place line (Err Memory) = Unit {0}
TakesLine old new place line (Err (Wrong fault)) = IsWrong place (words line) fault

-- the fault of a text whose line of this number wasn't taken
abbrev pub fault_at : ℕ → LineError → AsmFault
fault_at line Memory = MemoryRefused
fault_at line (Wrong WrongMnemonic) = Mnemonic line
fault_at line (Wrong WrongField) = Field line
fault_at line (Wrong WrongPlace) = AfterEnd line
