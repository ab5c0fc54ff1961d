-- What is written of a file that may go on.
use Rattle.std.proofs.Common.{◌≡◌, ℕ, Bool, true, false, List, [], ◌∷◌, ◌++◌, codes, refl, sym, subst, ap, ◌∙◌, append_assoc, append-nil}
use Rattle.std.proofs.lemmas.Grind.{flat_map-append}
use Rattle.std.specs.Prelude.{map}
use Rattle.std.specs.List.{flat_map}
use Rattle.text_fields.proofs.HexDigits.{encode-append}
use Rattle.binaryfile.specs.Entries.{Contents, Splits}
use Rattle.day_segments.specs.Reading.{followed_by}
use Rattle.day_segments.specs.Segments.{carry_after, carry_by}
use Rattle.day_segments.proofs.Following.{after_marker}
use Rattle.itch_print.specs.Disassembly.{end_lines, ended, hex_line, payload_line, text_of}
use Rattle.itch_dis.specs.TextEnds.{added_by, closing_lines, end_so_far, rest_so_far, text_end_after, text_end_of}
use Rattle.itch_dis.specs.Extents.{lines}
use Rattle.itch_dis.proofs.TextParts.{lines-append}

abbrev contents : List (List ℕ) → Bool → List ℕ → Contents
contents payloads marked tail = record { payloads = payloads; marked = marked; tail = tail }

-- the lines of its messages, and of its end what no later byte changes
abbrev pub text_so_far : Contents → List ℕ
text_so_far c = lines c.payloads ++ end_so_far c.marked c.tail

rest_goes_on : (tail given : List ℕ) → rest_so_far (tail ++ given) ≡ rest_so_far tail ++ added_by (text_end_of true tail) true given
rest_goes_on [] given = refl
rest_goes_on (b ∷ bs) given = ap (λ (digits : List ℕ). codes "rest " ++ digits) (encode-append _ (b ∷ bs) given)

goes_on_by : (marked : Bool) (tail rest : List ℕ) (payloads : List (List ℕ)) (next : Contents) → Splits (carry_by marked tail ++ rest) next
    → text_so_far (followed_by (contents payloads marked tail) next) ≡ text_so_far (contents payloads marked tail) ++ (lines next.payloads ++ added_by (text_end_of marked tail) next.marked next.tail)
goes_on_by false tail rest payloads next split =
    let end = end_so_far next.marked next.tail in
    ap (λ (front : List ℕ). front ++ end) (lines-append payloads next.payloads) ∙ append_assoc (lines payloads) (lines next.payloads) end
    ∙ ap (λ (front : List ℕ). front ++ (lines next.payloads ++ end)) (sym (append-nil (lines payloads)))
goes_on_by true tail rest payloads next split =
    let more = added_by (text_end_of true tail) true rest in
    subst (λ (next : Contents). text_so_far (followed_by (contents payloads true tail) next) ≡ text_so_far (contents payloads true tail) ++ (lines next.payloads ++ added_by (text_end_of true tail) next.marked next.tail))
    (sym (after_marker rest next split))
    (ap (λ (all : List (List ℕ)). lines all ++ (codes "end\n" ++ rest_so_far (tail ++ rest))) (append-nil payloads) ∙ ap (λ (digits : List ℕ). lines payloads ++ (codes "end\n" ++ digits)) (rest_goes_on tail rest)
    ∙ sym (append_assoc (lines payloads) (codes "end\n" ++ rest_so_far tail) more))

-- a segment adds its lines, and more of the end
pub text_goes_on : (c next : Contents) (rest : List ℕ) → Splits (carry_after c ++ rest) next
    → text_so_far (followed_by c next) ≡ text_so_far c ++ (lines next.payloads ++ added_by (text_end_of c.marked c.tail) next.marked next.tail)
text_goes_on c next rest = goes_on_by c.marked c.tail rest c.payloads next

rest_is : (tail rest : List ℕ) → text_end_of true (tail ++ rest) ≡ text_end_after (text_end_of true tail) true rest
rest_is [] rest = refl
rest_is (b ∷ bs) rest = refl

end_by : (marked : Bool) (tail rest : List ℕ) (payloads : List (List ℕ)) (next : Contents) → Splits (carry_by marked tail ++ rest) next
    → text_end_after (text_end_of marked tail) next.marked next.tail
    ≡ text_end_of (followed_by (contents payloads marked tail) next).marked (followed_by (contents payloads marked tail) next).tail
end_by false tail rest payloads next split = refl
end_by true tail rest payloads next split =
    subst (λ (next : Contents). text_end_after (text_end_of true tail) next.marked next.tail ≡ text_end_of next.marked (tail ++ next.tail))
    (sym (after_marker rest next split)) (sym (rest_is tail rest))

pub end_goes_on : (c next : Contents) (rest : List ℕ) → Splits (carry_after c ++ rest) next
    → text_end_after (text_end_of c.marked c.tail) next.marked next.tail ≡ text_end_of (followed_by c next).marked (followed_by c next).tail
end_goes_on c next rest = end_by c.marked c.tail rest c.payloads next

end_is : (marked : Bool) (tail : List ℕ) → flat_map ended (end_lines marked tail) ≡ end_so_far marked tail ++ closing_lines (text_end_of marked tail) (carry_by marked tail)
end_is false [] = refl
end_is false (b ∷ bs) = append-nil (ended (hex_line (codes "cut") (b ∷ bs)))
end_is true [] = refl
end_is true (b ∷ bs) = ap (λ (line : List ℕ). codes "end\n" ++ line) (append-nil (ended (hex_line (codes "rest") (b ∷ bs))))

-- and where the file ends, the closing lines are the rest of its text
pub text_closes : (c : Contents) → text_of c ≡ text_so_far c ++ closing_lines (text_end_of c.marked c.tail) (carry_after c)
unfolding text_of
text_closes c =
    flat_map-append ended (map payload_line c.payloads) (end_lines c.marked c.tail) ∙ ap (λ (end : List ℕ). lines c.payloads ++ end) (end_is c.marked c.tail)
    ∙ sym (append_assoc (lines c.payloads) (end_so_far c.marked c.tail) (closing_lines (text_end_of c.marked c.tail) (carry_after c)))

-- whatever comes, the text goes on from there
pub text_leads : (c next : Contents) (rest : List ℕ) → Splits (carry_after c ++ rest) next → (more : List ℕ) × (text_of (followed_by c next) ≡ text_so_far c ++ more)
text_leads c next rest split =
    let all = followed_by c next in
    let added = lines next.payloads ++ added_by (text_end_of c.marked c.tail) next.marked next.tail in
    let closing = closing_lines (text_end_of all.marked all.tail) (carry_after all) in
    (added ++ closing, text_closes all ∙ ap (λ (front : List ℕ). front ++ closing) (text_goes_on c next rest split) ∙ append_assoc (text_so_far c) added closing)
