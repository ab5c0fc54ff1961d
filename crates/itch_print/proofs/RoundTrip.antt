-- The text that is written for a file denotes the file's bytes, and nothing else.
use Rattle.std.proofs.Common.{◌≡◌, ◌≢◌, ℕ, List, [], ◌++◌, refl, sym, ap, ◌∙◌, subst}
use Rattle.byte_strings.specs.Bytes.{AreBytes}
use Rattle.binaryfile.specs.Entries.{Contents, Splits, bytes_of}
use Rattle.itch_text.specs.Text.{Text}
use Rattle.itch_text.specs.Blames.{DenotesNothing}
use Rattle.itch_text.specs.declared.assembler.AsmFault.{AsmFault}
use Rattle.itch_text.specs.declared.assembler.AsmFault.TheVariants.{Memory, Mnemonic, Field, AfterEnd}
use Rattle.itch_text.proofs.WholeTexts.{one_meaning}
use Rattle.itch_print.specs.Disassembly.{text_of}
use Rattle.itch_print.proofs.PrintedFiles.{disassembly_denotes}

pub text_denotes : (bytes empty text : List ℕ) (contents : Contents) → AreBytes bytes → Splits bytes contents → empty ≡ [] → text ≡ empty ++ text_of contents → Text text (bytes_of contents)
text_denotes bytes empty text contents range split none more =
    let is : text ≡ text_of contents = more ∙ ap (λ (xs : List ℕ). xs ++ text_of contents) none in
    subst (Text text) split.whole (subst (λ t. Text t bytes) (sym is) (disassembly_denotes bytes contents range split))

pub only_bytes : (bytes text found : List ℕ) → Text text bytes → Text text found → found ≡ bytes
only_bytes bytes text found denotes other = one_meaning text found bytes other denotes

pub memory_alone : (bytes text : List ℕ) (fault : AsmFault) → Text text bytes → (fault ≢ Memory → DenotesNothing text) → fault ≡ Memory
memory_alone bytes text Memory denotes nothing = refl
memory_alone bytes text (Mnemonic line) denotes nothing = absurd (nothing (λ same. cc) bytes denotes)
memory_alone bytes text (Field line) denotes nothing = absurd (nothing (λ same. cc) bytes denotes)
memory_alone bytes text (AfterEnd line) denotes nothing = absurd (nothing (λ same. cc) bytes denotes)

pub ruleset round_trip = (only_bytes, memory_alone)
