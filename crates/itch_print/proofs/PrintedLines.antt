-- The line that is written for a payload denotes an entry with that payload.
use Rattle.std.proofs.Common.{◌≡◌, ℕ, zero, suc, ◌<◌, ◌==◌, Bool, true, false, cond, List, [], ◌∷◌, ◌++◌, length, map, drop, codes, get_or, slice_index, Option, Some, None, refl, sym, ap, ap₂, ◌∙◌, subst, arith, eqb-true, append-nil, append_assoc, lit<, lit≤, inl, inr}
use Rattle.std.proofs.lemmas.Bool.{false≢true}
use Rattle.std.proofs.lemmas.List.{drop_all}
use Rattle.std.proofs.lemmas.List.Elements.{All-from_recursion}
use Rattle.byte_strings.specs.Bytes.{AreBytes, IsByte}
use Rattle.std.specs.List.{flat_map, AllByRecursion as Each}
use Rattle.hex.specs.Hex.{encode_with, encode_lower}
use Rattle.hex.proofs.HexLemmas.{decode_of-encode_lower}
use Rattle.binaryfile.specs.Entries.{IsPayload}
use Rattle.itch_layouts.specs.Layouts.{Layout, Field, layout_of_kind, fields, value_at}
use Rattle.itch_layouts.specs.Encoding.{Fit, FitsField, encoding}
use Rattle.itch_layouts.proofs.EncodedFields.{Tile, encoded_values, values_fit}
use Rattle.itch_text.specs.Words.{words, is_word}
use Rattle.itch_text.specs.Values.{FieldTexts}
use Rattle.itch_text.specs.Items.{Entry, IsHexLine, Line}
use Rattle.itch_print.specs.Disassembly.{value_text, field_text, message_line, hex_line, line_by, payload_line}
use Rattle.itch_print.proofs.OneWord.{EachByte, IsOne, IsHigh, IsInk, closed, closed_append, closed_high, high_hex, each_append, each_weaker, joined, words_joined}
use Rattle.itch_print.proofs.PrintedValues.{value_text_is, value_closed, value_ink}
use Rattle.itch_print.proofs.PrintableLayouts.{IsName, IsPrintableField, IsPrintable, printable}

-- ---- the fields of a message

prefix_word : (v w : List ℕ) → is_word v ≡ true → is_word (v ++ w) ≡ true
prefix_word [] w h = absurd (false≢true h)
prefix_word (b ∷ v) w h = refl

high_ink : (bs : List ℕ) → Each IsHigh bs → Each IsInk bs
high_ink bs h = each_weaker IsHigh IsInk (λ x i. omega arith) bs h

-- a word without control bytes
abbrev IsPlainWord : List ℕ → Type 0
IsPlainWord text = IsOne text × Each IsInk text

field_closed : (payload : List ℕ) (f : Field) → IsPrintableField f → FitsField f.form f.width (value_at payload f) → IsPlainWord (field_text payload f)
field_closed payload f g h =
    let v = value_text (value_at payload f) in
    let c : closed false (61 ∷ v) ≡ true = value_closed f.form f.width (value_at payload f) g.width h in
    let whole : f.name ++ 61 ∷ v ≡ field_text payload f = sym (append_assoc f.name (61 ∷ []) v) in
    subst IsPlainWord whole (
      (closed_append false f.name (61 ∷ v) (closed_high f.name g.name.high) c, prefix_word f.name (61 ∷ v) g.name.word),
      each_append IsInk f.name (61 ∷ v) (high_ink f.name g.name.high) (lit≤ tt, value_ink f.form f.width (value_at payload f) g.width h),
    )

abbrev spaced : List ℕ → Field → List ℕ
spaced payload f = 32 ∷ field_text payload f

-- the fields' texts are texts of their values, and a word each
record ArePrinted (payload : List ℕ) (fs : List Field) : Type 0 where
  texts : FieldTexts fs (map (field_text payload) fs) (map (value_at payload) fs)
  ones : Each IsOne (map (field_text payload) fs)
  ink : Each IsInk (flat_map (spaced payload) fs)

fields_printed : (payload : List ℕ) (fs : List Field) → Each IsPrintableField fs → Fit fs (map (value_at payload) fs) → ArePrinted payload fs
fields_printed payload [] g h = record { texts = tt; ones = tt; ink = tt }
fields_printed payload (f ∷ fs) g h =
    let c = field_closed payload f g.0 h.0 in
    let others = fields_printed payload fs g.1 h.1 in
    record {
      texts = ((value_text (value_at payload f), refl, value_text_is f.form f.width (value_at payload f) g.0.width h.0), others.texts);
      ones = (c.0, others.ones);
      ink = each_append IsInk (spaced payload f) (flat_map (spaced payload) fs) (lit≤ tt, c.1) others.ink;
    }

joined_map : (w : List ℕ) (g : Field → List ℕ) (fs : List Field) → w ++ flat_map (λ f. 32 ∷ g f) fs ≡ joined w (map g fs)
joined_map w g [] = refl
joined_map w g (f ∷ fs) = ap (λ xs. w ++ 32 ∷ xs) (joined_map (g f) g fs)

first_and_rest : (xs : List ℕ) → 0 < length xs → xs ≡ slice_index xs 0 ∷ drop 1 xs
first_and_rest [] h = absurd (omega arith)
first_and_rest (x ∷ xs) h = refl

-- ---- lines

-- the text is a line that denotes an entry with the payload, without control bytes
abbrev Printed : List ℕ → List ℕ → Type 0
Printed payload text = Line text (Entry payload) × Each IsInk text

-- the values of a payload's fields encode the payload again
encoded_again : (payload : List ℕ) (layout : Layout) → AreBytes payload → 0 < length payload → Tile 1 (fields layout) layout.size → length payload ≡ layout.size → layout.kind ≡ slice_index payload 0 → payload ≡ layout.kind ∷ encoding (fields layout) (map (value_at payload) (fields layout))
encoded_again payload layout h n t e k =
    let values = map (value_at payload) (fields layout) in
    let bytes : drop 1 payload ≡ encoding (fields layout) values =
    sym (encoded_values payload 1 (fields layout) layout.size h t (omega arith)) ∙ ap (λ xs. encoding (fields layout) values ++ xs) (drop_all layout.size payload (omega arith)) ∙ append-nil _ in
    first_and_rest payload n ∙ ap₂ (λ b bs. b ∷ bs) (sym k) bytes

message_printed : (payload : List ℕ) (layout : Layout) → EachByte payload → 0 < length payload → IsPrintable (slice_index payload 0) layout → length payload ≡ layout.size → Printed payload (message_line payload layout)
message_printed payload layout h n g e =
    let are : AreBytes payload = All-from_recursion IsByte payload h in
    let fit : Fit (fields layout) (map (value_at payload) (fields layout)) = values_fit payload 1 (fields layout) layout.size are g.tiled (omega arith) in
    let p = fields_printed payload (fields layout) g.fields_are fit in
    let separated : words (message_line payload layout) ≡ layout.mnemonic ∷ map (field_text payload) (fields layout) =
    ap words (joined_map layout.mnemonic (field_text payload) (fields layout)) ∙ words_joined layout.mnemonic (map (field_text payload) (fields layout)) (closed_high layout.mnemonic g.name.high, g.name.word) p.ones in (
      inl (record {
        word = layout.mnemonic;
        layout = layout;
        texts = map (field_text payload) (fields layout);
        values = map (value_at payload) (fields layout);
        known = g.named_so;
        parts = separated;
        denoted = p.texts;
        whole = encoded_again payload layout are n g.tiled e g.kind_is;
      }),
      each_append IsInk layout.mnemonic (flat_map (spaced payload) (fields layout)) (high_ink layout.mnemonic g.name.high) p.ink,
    )

hex_word : (bytes : List ℕ) → 0 < length bytes → is_word (encode_lower bytes) ≡ true
unfolding encode_with
hex_word [] h = absurd (omega arith)
hex_word (b ∷ bs) h = refl

small : (bs : List ℕ) → EachByte bs → (i : ℕ) → get_or bs i 0 < 256
small [] h i = lit< tt
small (b ∷ bs) h zero = h.0
small (b ∷ bs) h (suc i) = small bs h.1 i

pub hex_printed : (name : List ℕ) (bytes : List ℕ) → IsName name → EachByte bytes → 0 < length bytes → IsHexLine name (words (hex_line name bytes)) bytes × Each IsInk (hex_line name bytes)
hex_printed name bytes o h n =
    let digits = encode_lower bytes in
    let high = high_hex bytes h in
    let whole : name ++ 32 ∷ digits ≡ hex_line name bytes = sym (append_assoc name (32 ∷ []) digits) in
    let one : IsOne digits = (closed_high digits high, hex_word bytes n) in
    let separated : words (hex_line name bytes) ≡ name ∷ digits ∷ [] =
    ap words (sym whole ∙ ap (λ xs. name ++ 32 ∷ xs) (sym (append-nil digits))) ∙ words_joined name (digits ∷ []) (closed_high name o.high, o.word) (one, tt) in (
      (digits, separated, (decode_of-encode_lower bytes (small bytes h), n)),
      subst (Each IsInk) whole (each_append IsInk name (32 ∷ digits) (high_ink name o.high) (lit≤ tt, high_ink digits high)),
    )

raw_name : IsName (codes "raw")
raw_name = record { word = refl; high = (lit≤ tt, (lit≤ tt, (lit≤ tt, tt))) }

raw_printed : (payload : List ℕ) → EachByte payload → IsPayload payload → Printed payload (hex_line (codes "raw") payload)
raw_printed payload h n = let p = hex_printed (codes "raw") payload raw_name h n.0 in (inr (p.0, n), p.1)

sized_by : (payload : List ℕ) (layout : Layout) (b : Bool) → length payload == layout.size ≡ b → (length payload ≡ layout.size → Printed payload (message_line payload layout)) → Printed payload (hex_line (codes "raw") payload) → Printed payload (cond b (message_line payload layout) (hex_line (codes "raw") payload))
sized_by payload layout true e h k = h (eqb-true (length payload) layout.size e)
sized_by payload layout false e h k = k

printed_by : (payload : List ℕ) → EachByte payload → IsPayload payload → (o : Option Layout) → layout_of_kind (slice_index payload 0) ≡ o → Printed payload (line_by payload o)
printed_by payload h n None e = raw_printed payload h n
printed_by payload h n (Some layout) e =
    sized_by payload layout (length payload == layout.size) refl (λ l. message_printed payload layout h n.0 (printable (slice_index payload 0) layout e) l) (raw_printed payload h n)

pub payload_printed : (payload : List ℕ) → EachByte payload → IsPayload payload → Line (payload_line payload) (Entry payload) × Each IsInk (payload_line payload)
payload_printed payload h n = printed_by payload h n (layout_of_kind (slice_index payload 0)) refl
