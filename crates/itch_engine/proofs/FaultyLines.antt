-- The fault of the program for a faulty line of a text.
use Rattle.std.proofs.Common.{◌≢◌, ℕ, List, refl}
use Rattle.itch_text.specs.Blames.{Blames, DenotesNothing}
use Rattle.itch_text.specs.declared.assembler.AsmFault.{AsmFault}
use Rattle.itch_text.specs.declared.assembler.AsmFault.TheVariants.{Memory as AsmMemory, Mnemonic, Field, AfterEnd}
use Rattle.engine_rules.specs.FaultOrigins.{fault_of_asm}
use Rattle.engine_rules.specs.Runs.{Fails}
use Rattle.itch_engine.specs.TextEngines.{HasFaultyLine, assembler}
use Rattle.engine_rules.specs.declared.fault.ProgFault.TheVariants.{Asm}

-- a fault of a line is the program's fault for the text
at_line : (text : List ℕ) (found : AsmFault) → found ≢ AsmMemory → Blames text found → DenotesNothing text → HasFaultyLine text (Asm found)
at_line text found is_line blamed nothing = record { line = found; is = refl; line_is = is_line; blamed = blamed; nothing = nothing }

-- what the assembler returns for a text is why the engine fails
pub fails_at_line : (text : List ℕ) (found : AsmFault) → Blames text found → (found ≢ AsmMemory → DenotesNothing text) → Fails assembler text (fault_of_asm found)
fails_at_line text AsmMemory blamed nothing = tt
fails_at_line text (Mnemonic line) blamed nothing = at_line text (Mnemonic line) (λ is. cc) blamed (nothing (λ is. cc))
fails_at_line text (Field line) blamed nothing = at_line text (Field line) (λ is. cc) blamed (nothing (λ is. cc))
fails_at_line text (AfterEnd line) blamed nothing = at_line text (AfterEnd line) (λ is. cc) blamed (nothing (λ is. cc))
