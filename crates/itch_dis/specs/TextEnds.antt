-- The end of a file's text, as far as the file was read. All is of this project.
use Rattle.std.specs.Prelude.{ℕ, Bool, true, false, List, [], ◌∷◌, ◌++◌, codes}
use Rattle.hex.specs.Hex.{encode_lower}
use Rattle.itch_print.specs.Disassembly.{ended, hex_line}
use Rattle.itch_dis.specs.declared.text_end.TextEnd.{TextEnd}
use Rattle.itch_dis.specs.declared.text_end.TextEnd.TheVariants.{Open, Marked, Rest}

-- of the bytes after an end marker, where more may come: their line as it begins, without its line feed
abbrev pub rest_so_far : List ℕ → List ℕ
rest_so_far [] = []
rest_so_far (b ∷ bs) = codes "rest " ++ encode_lower (b ∷ bs)

-- of the end of a file that may go on: before an end marker nothing
abbrev pub end_so_far : Bool → List ℕ → List ℕ
end_so_far false tail = []
end_so_far true tail = codes "end\n" ++ rest_so_far tail

-- how far that is
abbrev pub text_end_of : Bool → List ℕ → TextEnd
text_end_of false tail = Open
text_end_of true [] = Marked
text_end_of true (b ∷ bs) = Rest

-- how far it is with a segment more: whether that has an end marker, and its tail
abbrev pub text_end_after : TextEnd → Bool → List ℕ → TextEnd
text_end_after Open marked tail = text_end_of marked tail
text_end_after Marked marked tail = text_end_of true tail
text_end_after Rest marked tail = Rest

-- what such a segment adds to the end
abbrev pub added_by : TextEnd → Bool → List ℕ → List ℕ
added_by Open marked tail = end_so_far marked tail
added_by Marked marked tail = rest_so_far tail
added_by Rest marked tail = encode_lower tail

-- what comes after all segments, where these bytes are less than a whole entry
abbrev pub closing_lines : TextEnd → List ℕ → List ℕ
closing_lines Open [] = []
closing_lines Open (b ∷ bs) = ended (hex_line (codes "cut") (b ∷ bs))
closing_lines Marked cut = []
closing_lines Rest cut = codes "\n"
