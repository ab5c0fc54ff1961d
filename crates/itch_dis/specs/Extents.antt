-- What is written of a segment, by how much of a file is written. All is of this project.
use Rattle.std.specs.Prelude.{◌≡◌, ℕ, ◌-◌, ◌^◌, List, [], ◌++◌, map}
use Rattle.std.specs.List.{flat_map}
use Rattle.binaryfile.specs.Entries.{Contents}
use Rattle.day_printing.specs.Printers.{Printer}
use Rattle.itch_print.specs.Disassembly.{ended, lines_between, payload_line, text_of}
use Rattle.itch_dis.specs.Printers.{Reaches, last_number, part_of_text, whole_text}
use Rattle.itch_dis.specs.TextEnds.{added_by, closing_lines, end_so_far, text_end_of}
use Rattle.itch_dis.specs.declared.extent.Extent.{Extent}
use Rattle.itch_dis.specs.declared.extent.Extent.TheVariants.{Whole, Messages}
use Rattle.itch_dis.specs.declared.text_end.TextEnd.{TextEnd}

abbrev pub printer_of : Extent → Printer
printer_of Whole = whole_text
printer_of (Messages first last) = part_of_text first last

-- so many messages suffice
abbrev pub ReachesEnd : Extent → ℕ → Type 0
ReachesEnd Whole count = ⊥
ReachesEnd (Messages first last) count = Reaches last count

-- of a segment, after so many messages, of a text whose end was written so far
abbrev pub segment_text : Extent → ℕ → TextEnd → Contents → List ℕ
segment_text Whole before end segment = lines_between segment 1 (2 ^ 32 - 1)
    ++ added_by end segment.marked segment.tail
segment_text (Messages first last) before end segment =
    lines_between segment (first - before) (last_number last - before)

-- after all segments, where these bytes are less than a whole entry
abbrev pub closing_text : Extent → TextEnd → List ℕ → List ℕ
closing_text Whole end cut = closing_lines end cut
closing_text (Messages first last) end cut = []

-- of a whole file
abbrev pub text_of_extent : Extent → Contents → List ℕ
text_of_extent Whole contents = text_of contents
text_of_extent (Messages first last) contents = lines_between contents first (last_number last)

-- the lines of messages
abbrev pub lines : List (List ℕ) → List ℕ
lines payloads = flat_map ended (map payload_line payloads)

-- of a file that may go on
abbrev pub so_far_of : Extent → Contents → List ℕ
so_far_of Whole contents = lines contents.payloads ++ end_so_far contents.marked contents.tail
so_far_of (Messages first last) contents = lines_between contents first (last_number last)

-- this was written of a file that was read so far, to this end
pub record IsPrinted (extent now : Extent) (end : TextEnd) (read : Contents) (text : List ℕ) : Type 0 where
  pub same : now ≡ extent
  pub end_is : end ≡ text_end_of read.marked read.tail
  pub is : text ≡ so_far_of extent read
