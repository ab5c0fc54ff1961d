-- What the disassembler and the assembler make of an input, and the faults that they find in one.
use Rattle.std.specs.Prelude.{◌≡◌, ◌≢◌, ℕ, ◌-◌, ◌^◌, ◌≤◌, List, length}
use Rattle.binaryfile.specs.Entries.{Contents, Splits}
use Rattle.itch_text.specs.Blames.{Blames, DenotesNothing}
use Rattle.itch_text.specs.Text.{Text}
use Rattle.itch_text.specs.declared.assembler.AsmFault.{AsmFault}
use Rattle.itch_text.specs.declared.assembler.AsmFault.TheVariants.{Memory as AsmMemory}
use Rattle.itch_print.specs.Disassembly.{text_of}
use Rattle.engine_rules.specs.Runs.{Engine}
use Rattle.engine_rules.specs.Limits.{HasTooManyMessages}
use Rattle.engine_rules.specs.declared.fault.ProgFault.{ProgFault}
use Rattle.engine_rules.specs.declared.fault.ProgFault.TheVariants.{Asm}

-- The input is a file, and the text is the one that is printed for it, which denotes the very bytes of the input.
pub record Disassembles (input text : List ℕ) : Type 0 where
  pub contents : Contents
  pub split : Splits input contents
  pub few : length contents.payloads ≤ 2 ^ 32 - 1
  pub printed : text ≡ text_of contents
  pub denotes : Text text input

-- The first faulty line of the text has this fault, and the text denotes nothing.
pub record HasFaultyLine (text : List ℕ) (fault : ProgFault) : Type 0 where
  pub line : AsmFault
  pub is : fault ≡ Asm line
  pub line_is : line ≢ AsmMemory
  pub blamed : Blames text line
  pub nothing : DenotesNothing text

-- the engine that reads a day file and writes its text
abbrev pub disassembler : Engine (Unit {0})
disassembler = record {
  most = 2 ^ 40;
  Makes = λ input output _. Disassembles input output;
  Finds = HasTooManyMessages;
}

-- the engine that reads a text and writes the file that it denotes
abbrev pub assembler : Engine (Unit {0})
assembler = record {
  most = 2 ^ 40;
  Makes = λ text output _. Text text output;
  Finds = HasFaultyLine;
}
