-- What is written for a value is a text of the value, one word, and without control bytes.
use Rattle.std.proofs.Common.{◌≡◌, ℕ, suc, ◌+◌, ◌-◌, ◌*◌, ◌/◌, ◌%◌, ◌^◌, ◌<◌, ◌≤◌, Bool, true, false, cond, List, [], ◌∷◌, ◌++◌, length, replicate, decimal, Some, refl, sym, ap, ap₂, ◌∙◌, arith, lit<, lit≤, eqb-true}
use Rattle.std.proofs.lemmas.Bool.{and_parts}
use Rattle.std.proofs.lemmas.List.Elements.{recursion_from_All}
use Rattle.byte_strings.specs.Bytes.{IsByte}
use Rattle.std.proofs.lemmas.Fmt.{decimal_is_IsNumeral, length-decimal-le}
use Rattle.std.specs.List.{flat_map, list_all, AllByRecursion as Each}
use Rattle.hex.specs.Hex.{encode_with, encode_lower}
use Rattle.hex.proofs.HexLemmas.{IsDigits-lower_digits}
use Rattle.itch_layouts.specs.Layouts.{Form, Integer, Alpha, Value, Number, Bytes}
use Rattle.itch_layouts.specs.Encoding.{FitsField}
use Rattle.itch_text.specs.Values.{unescaped, with_first, padded, denotes_itself, ValueText}
use Rattle.itch_text.proofs.Escapes.{itself_first}
use Rattle.itch_text.proofs.Widths.{below_64}
use Rattle.text_fields.specs.Quoted.{is_space, escaped, unpadded}
use Rattle.itch_print.specs.Disassembly.{value_text}
use Rattle.itch_print.proofs.OneWord.{EachByte, IsHigh, IsInk, IsInner, closed, closed_high, closed_inner, high_digits, inner_bytes, each_append, each_weaker}

-- ---- bytes between quotes

unescaped_hex : (b : ℕ) (rest : List ℕ) → b < 256 → unescaped ((92 ∷ 120 ∷ encode_lower (b ∷ [])) ++ rest) ≡ with_first (Some b) (unescaped rest)
unfolding unescaped encode_with
unescaped_hex b rest h =
    let whole : b / 16 * 16 + b % 16 ≡ b = omega arith in
    rw (IsDigits-lower_digits (b / 16) (omega arith), IsDigits-lower_digits (b % 16) (omega arith)) (ap (λ x. with_first (Some x) (unescaped rest)) whole)

unescaped_by : (b : ℕ) (rest : List ℕ) (plain : Bool) → denotes_itself b ≡ plain → b < 256 → unescaped (cond plain (b ∷ []) (92 ∷ 120 ∷ encode_lower (b ∷ [])) ++ rest) ≡ with_first (Some b) (unescaped rest)
unescaped_by b rest true e h = itself_first b rest e
unescaped_by b rest false e h = unescaped_hex b rest h

unescaped_text : (bs : List ℕ) → EachByte bs → unescaped (flat_map escaped bs) ≡ Some bs
unfolding unescaped
unescaped_text [] h = refl
unescaped_text (b ∷ bs) h =
    unescaped_by b (flat_map escaped bs) (denotes_itself b) refl h.0 ∙ ap (with_first (Some b)) (unescaped_text bs h.1)

-- ---- padding

spaces : (bs : List ℕ) → list_all is_space bs ≡ true → bs ≡ replicate (length bs) 32
spaces [] h = refl
spaces (b ∷ bs) h = let p = and_parts (is_space b) (list_all is_space bs) h in ap₂ (λ x xs. x ∷ xs) (eqb-true b 32 p.0) (spaces bs p.1)

shorter_by : (b : ℕ) (bs : List ℕ) (s : Bool) → length (unpadded bs) ≤ length bs → length (cond s [] (b ∷ unpadded bs)) ≤ suc (length bs)
shorter_by b bs true h = omega arith
shorter_by b bs false h = omega arith

padded_by : (b : ℕ) (bs : List ℕ) (s : Bool) → list_all is_space (b ∷ bs) ≡ s → padded (length bs) (unpadded bs) ≡ bs → padded (suc (length bs)) (cond s [] (b ∷ unpadded bs)) ≡ b ∷ bs
padded_by b bs true e h =
    let n : suc (length bs) - 0 ≡ suc (length bs) = omega arith in
    ap (λ k. replicate k 32) n ∙ sym (spaces (b ∷ bs) e)
padded_by b bs false e h =
    let n : suc (length bs) - suc (length (unpadded bs)) ≡ length bs - length (unpadded bs) = omega arith in
    ap (λ k. b ∷ (unpadded bs ++ replicate k 32)) n ∙ ap (λ xs. b ∷ xs) h

bytes_by : (b : ℕ) (bs : List ℕ) (s : Bool) → b < 256 → EachByte (unpadded bs) → EachByte (cond s [] (b ∷ unpadded bs))
bytes_by b bs true h k = tt
bytes_by b bs false h k = (h, k)

unpadded_shorter : (bs : List ℕ) → length (unpadded bs) ≤ length bs
unpadded_shorter [] = omega arith
unpadded_shorter (b ∷ bs) = shorter_by b bs (list_all is_space (b ∷ bs)) (unpadded_shorter bs)

-- the padding fills the field again
padded_again : (bs : List ℕ) → padded (length bs) (unpadded bs) ≡ bs
padded_again [] = refl
padded_again (b ∷ bs) = padded_by b bs (list_all is_space (b ∷ bs)) refl (padded_again bs)

unpadded_bytes : (bs : List ℕ) → EachByte bs → EachByte (unpadded bs)
unpadded_bytes [] h = tt
unpadded_bytes (b ∷ bs) h = bytes_by b bs (list_all is_space (b ∷ bs)) h.0 (unpadded_bytes bs h.1)

-- ---- values

-- a number of a width that a field can have
abbrev pub IsWidth : Form → ℕ → Type 0
IsWidth Integer width = width ≤ 8
IsWidth Alpha width = Unit {0}

pub value_text_is : (form : Form) (width : ℕ) (value : Value) → IsWidth form width → FitsField form width value → ValueText form width (value_text value) value
value_text_is Integer width (Number n) w h =
    let small = below_64 n width w h in
    let d = decimal_is_IsNumeral n small in
    ((d.0, length-decimal-le 20 n (lit< tt) (omega (arith, small)) small, d.1), h)
value_text_is Alpha width (Bytes bs) w h =
    record {
      inner = flat_map escaped (unpadded bs);
      short = unpadded bs;
      between = refl;
      denoted = unescaped_text (unpadded bs) (unpadded_bytes bs (recursion_from_All IsByte bs h.1));
      within = rw (sym h.0) (unpadded_shorter bs);
      filled = rw (sym h.0) (sym (padded_again bs));
    }
value_text_is Integer width (Bytes bs) w h = absurd h
value_text_is Alpha width (Number n) w h = absurd h

pub value_closed : (form : Form) (width : ℕ) (value : Value) → IsWidth form width → FitsField form width value → closed false (value_text value) ≡ true
value_closed Integer width (Number n) w h = closed_high (decimal n) (high_digits (decimal n) (decimal_is_IsNumeral n (below_64 n width w h)).0.1)
value_closed Alpha width (Bytes bs) w h = closed_inner (flat_map escaped (unpadded bs)) (inner_bytes (unpadded bs) (unpadded_bytes bs (recursion_from_All IsByte bs h.1)))
value_closed Integer width (Bytes bs) w h = absurd h
value_closed Alpha width (Number n) w h = absurd h

pub value_ink : (form : Form) (width : ℕ) (value : Value) → IsWidth form width → FitsField form width value → Each IsInk (value_text value)
value_ink Integer width (Number n) w h = each_weaker IsHigh IsInk (λ x i. omega arith) (decimal n) (high_digits (decimal n) (decimal_is_IsNumeral n (below_64 n width w h)).0.1)
value_ink Alpha width (Bytes bs) w h =
    (lit≤ tt, each_append IsInk (flat_map escaped (unpadded bs)) (34 ∷ []) (each_weaker IsInner IsInk (λ x i. i.0) (flat_map escaped (unpadded bs)) (inner_bytes (unpadded bs) (unpadded_bytes bs (recursion_from_All IsByte bs h.1)))) (lit≤ tt, tt))
value_ink Integer width (Bytes bs) w h = absurd h
value_ink Alpha width (Number n) w h = absurd h
