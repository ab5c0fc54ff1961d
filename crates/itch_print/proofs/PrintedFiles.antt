-- The text that is written for a file denotes the file's bytes.
use Rattle.std.proofs.Common.{◌≡◌, ℕ, Bool, true, false, List, [], ◌∷◌, ◌++◌, length, map, codes, refl, sym, ap, ◌∙◌, subst, arith, ne_eqb, append-nil, append_assoc, lit≤, inl}
use Rattle.std.proofs.lemmas.List.Splits.{slice_split_at}
use Rattle.std.proofs.lemmas.List.Elements.{All-from_recursion, recursion_from_All}
use Rattle.std.specs.Int.{w16, to_be_bytes}
use Rattle.std.specs.List.{flat_map, All, AllByRecursion as Each}
use Rattle.byte_strings.specs.Bytes.{IsByte}
use Rattle.binaryfile.specs.Entries.{IsPayload, IsPartial, entry, marker}
use Rattle.itch_text.specs.Words.{words, pieces}
use Rattle.itch_text.specs.Items.{Item, Nothing, Entry, End, Cut, Rest, Line}
use Rattle.itch_text.specs.Text.{Text, Lines, lines_of, is_line_feed}
use Rattle.itch_print.specs.Disassembly.{payload_line, hex_line, end_lines, ended, text_of, DisassemblyDenotes}
use Rattle.itch_print.proofs.OneWord.{EachByte, IsInk, each_weaker, words_joined}
use Rattle.itch_print.proofs.PrintableLayouts.{IsName}
use Rattle.itch_print.proofs.PrintedLines.{hex_printed, payload_printed}

abbrev AreInk : List ℕ → Type 0
AreInk line = Each IsInk line

not_line_feed : (bs : List ℕ) → Each IsInk bs → All (λ b. is_line_feed b ≡ false) bs
not_line_feed bs h = All-from_recursion (λ b. is_line_feed b ≡ false) bs (each_weaker IsInk (λ b. is_line_feed b ≡ false) (λ b i. ne_eqb b 10 (λ e. omega arith)) bs h)

-- a line that a line feed ends, and the lines of the text after it
lines_from : (line text : List ℕ) → AreInk line → lines_of (ended line ++ text) ≡ line ∷ lines_of text
lines_from line text h =
    ap lines_of (append_assoc line (10 ∷ []) text) ∙ slice_split_at is_line_feed line 10 text (not_line_feed line h) refl

-- one item more in prefix of lines that denote items
one_more : (line text : List ℕ) (item : Item) (items : List Item) → AreInk line → Line line item → Lines (lines_of text) items → Lines (lines_of (ended line ++ text)) (item ∷ items)
one_more line text item items h l k = subst (λ ls. Lines ls (item ∷ items)) (sym (lines_from line text h)) (l, k)

-- ---- a file's end

blank_line : Line [] Nothing
unfolding words pieces
blank_line = inl refl

blank_text : Text [] []
blank_text = record { items = Nothing ∷ []; denoted = (blank_line, tt); ordered = refl; whole = refl }

end_line : Line (codes "end") End
end_line = words_joined (codes "end") [] (refl, refl) tt

end_ink : AreInk (codes "end")
end_ink = (lit≤ tt, (lit≤ tt, (lit≤ tt, tt)))

rest_name : IsName (codes "rest")
rest_name = record { word = refl; high = (lit≤ tt, (lit≤ tt, (lit≤ tt, (lit≤ tt, tt)))) }

cut_name : IsName (codes "cut")
cut_name = record { word = refl; high = (lit≤ tt, (lit≤ tt, (lit≤ tt, tt))) }

-- the lines of a file's end denote the bytes of it
end_text : (marked : Bool) (tail : List ℕ) → EachByte tail → (marked ≡ false → IsPartial tail) → Text (flat_map ended (end_lines marked tail)) (marker marked ++ tail)
end_text true [] h k =
    record {
      items = End ∷ Nothing ∷ [];
      denoted = one_more (codes "end") [] End (Nothing ∷ []) end_ink end_line (blank_line, tt);
      ordered = refl;
      whole = refl;
    }
end_text true (b ∷ bs) h k =
    let p = hex_printed (codes "rest") (b ∷ bs) rest_name h (omega arith) in
    let line = hex_line (codes "rest") (b ∷ bs) in
    let rest = one_more line [] (Rest (b ∷ bs)) (Nothing ∷ []) p.1 p.0 (blank_line, tt) in
    record {
      items = End ∷ Rest (b ∷ bs) ∷ Nothing ∷ [];
      denoted = one_more (codes "end") (ended line ++ []) End (Rest (b ∷ bs) ∷ Nothing ∷ []) end_ink end_line rest;
      ordered = refl;
      whole = ap (λ xs. 0 ∷ 0 ∷ b ∷ xs) (sym (append-nil bs));
    }
end_text false [] h k = blank_text
end_text false (b ∷ bs) h k =
    let p = hex_printed (codes "cut") (b ∷ bs) cut_name h (omega arith) in
    record {
      items = Cut (b ∷ bs) ∷ Nothing ∷ [];
      denoted = one_more (hex_line (codes "cut") (b ∷ bs)) [] (Cut (b ∷ bs)) (Nothing ∷ []) p.1 (p.0, k refl) (blank_line, tt);
      ordered = refl;
      whole = ap (λ xs. b ∷ xs) (sym (append-nil bs));
    }

-- ---- the payloads before it

-- one payload more in prefix
payload_text : (payload text bytes : List ℕ) → EachByte payload → IsPayload payload → Text text bytes → Text (ended (payload_line payload) ++ text) (entry payload ++ bytes)
payload_text payload text bytes h n t =
    let p = payload_printed payload h n in
    record {
      items = Entry payload ∷ t.items;
      denoted = one_more (payload_line payload) text (Entry payload) t.items p.1 p.0 t.denoted;
      ordered = t.ordered;
      whole = ap (λ xs. entry payload ++ xs) t.whole;
    }

payload_texts : (ps ls : List (List ℕ)) (bytes : List ℕ) → Each EachByte ps → Each IsPayload ps → Text (flat_map ended ls) bytes → Text (flat_map ended (map payload_line ps ++ ls)) (flat_map entry ps ++ bytes)
payload_texts [] ls bytes h n t = t
payload_texts (p ∷ ps) ls bytes h n t =
    let more = flat_map entry ps ++ bytes in
    let whole : entry p ++ more ≡ (entry p ++ flat_map entry ps) ++ bytes = sym (append_assoc (entry p) (flat_map entry ps) bytes) in
    let line = payload_line p in
    let text = flat_map ended (map payload_line ps ++ ls) in
    subst (Text (ended line ++ text)) whole (payload_text p text more h.0 n.0 (payload_texts ps ls bytes h.1 n.1 t))

-- ---- the parts of bytes are bytes

separated : (xs ys : List ℕ) → EachByte (xs ++ ys) → EachByte xs × EachByte ys
separated [] ys h = (tt, h)
separated (x ∷ xs) ys h = let p = separated xs ys h.1 in ((h.0, p.0), p.1)

parts_bytes : (ps : List (List ℕ)) (rest : List ℕ) → EachByte (flat_map entry ps ++ rest) → Each EachByte ps × EachByte rest
parts_bytes [] rest h = (tt, h)
parts_bytes (p ∷ ps) rest h =
    let q = separated (entry p) (flat_map entry ps ++ rest) (subst EachByte (append_assoc (entry p) (flat_map entry ps) rest) h) in
    let others = parts_bytes ps rest q.1 in
    (((separated (to_be_bytes w16 (length p)) p q.0).1, others.0), others.1)

-- ---- the whole file

pub disassembly_denotes : DisassemblyDenotes
unfolding text_of
disassembly_denotes bytes contents h s =
    let end = marker contents.marked ++ contents.tail in
    let all : EachByte bytes = recursion_from_All IsByte bytes h in
    let parts = parts_bytes contents.payloads end (subst EachByte s.whole all) in
    let tail = (separated (marker contents.marked) contents.tail parts.1).1 in
    let each = recursion_from_All IsPayload contents.payloads s.each in
    subst (Text (text_of contents)) (sym s.whole)
    (payload_texts contents.payloads (end_lines contents.marked contents.tail) end parts.0 each (end_text contents.marked contents.tail tail s.partial))
