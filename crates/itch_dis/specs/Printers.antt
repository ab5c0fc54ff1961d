-- What is written of a file: its whole text, or the lines of some of its messages. All is of this project.
use Rattle.std.specs.Prelude.{◌≡◌, ℕ, ◌-◌, ◌≤◌, ◌^◌, List, length, Option, Some, None}
use Rattle.byte_strings.specs.Bytes.{AreBytes}
use Rattle.binaryfile.specs.Entries.{Contents, Splits}
use Rattle.day_printing.specs.Printers.{Printer}
use Rattle.itch_text.specs.Text.{Text}
use Rattle.itch_print.specs.Disassembly.{lines_between, text_of}

-- the printer of a file's whole text; it reads to the file's end
abbrev pub whole_text : Printer
whole_text = record { IsText = λ contents text. text ≡ text_of contents; Suffices = λ _. ⊥ }

-- the whole text, which denotes the bytes of the file
pub record IsWholeText (contents : Contents) (text : List ℕ) : Type 0 where
  pub is : text ≡ text_of contents
  pub denotes : (input : List ℕ) → AreBytes input → Splits input contents → Text text input

-- the number of the last message that is wanted: where none is named, the greatest that a message can have
abbrev pub last_number : Option ℕ → ℕ
last_number None = 2 ^ 32 - 1
last_number (Some last) = last

-- a last message is named, and there are as many
pub record Reaches (last : Option ℕ) (count : ℕ) : Type 0 where
  pub number : ℕ
  pub named : last ≡ Some number
  pub reached : number ≤ count

-- the lines of messages from number first to number last
abbrev pub IsPart : ℕ → Option ℕ → Contents → List ℕ → Type 0
IsPart first last contents text = text ≡ lines_between contents first (last_number last)

-- the printer of these lines, which needn't read on after the last one
abbrev pub part_of_text : ℕ → Option ℕ → Printer
part_of_text first last = record {
  IsText = IsPart first last;
  Suffices = λ contents. Reaches last (length contents.payloads);
}
