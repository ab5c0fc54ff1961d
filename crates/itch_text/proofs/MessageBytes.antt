-- Appending the entry of a message: its size, its type and its fields.
use Rattle.std.proofs.Common.{◌≡◌, ℕ, ◌+◌, ◌-◌, List, [], ◌∷◌, ◌++◌, length, replicate, Option, Some, None, Err, option_map, MatchOption, is_some, true, false, IsTrue, refl, sym, ap, ◌∙◌, subst, arith, append_assoc, append-nil, length-append}
use Rattle.std.proofs.lemmas.Bool.{false≢true, true≢false}
use Rattle.std.proofs.lemmas.List.{length-replicate}
use Rattle.std.proofs.lemmas.Option.{none-some}
use Rattle.std.specs.Int.{w16, to_be_bytes}
use Rattle.itch_layouts.specs.Layouts.{Form, Integer, Alpha, Field, Layout, Value, Number, Bytes, fields, head_fields}
use Rattle.itch_layouts.specs.Encoding.{encoded, encoding}
use Rattle.itch_layouts.specs.Soundness.{is_sound}
use Rattle.itch_layouts.proofs.Digits.{length_digits}
use Rattle.itch_layouts.proofs.EncodedFields.{Tile, tile_of}
use Rattle.itch_text.specs.Items.{Entry, item_bytes}
use Rattle.itch_text.specs.Values.{ValueText, FieldTexts}
use Rattle.itch_text.specs.Parsing.{values_in}
use Rattle.itch_text.specs.Fields.{extended, fields_bytes, Puts, PutsFields}
use Rattle.itch_text.specs.declared.fault.LineError.{LineError}
use Rattle.itch_text.specs.declared.fault.LineError.TheVariants.{Memory, Wrong}
use Rattle.itch_text.proofs.FieldBytes.{nothing_extends}
use Rattle.itch_text.proofs.FieldParsing.{values_sound}
use Rattle.itch_text.proofs.Widths.{layout_tiles}

value_size : (form : Form) (width : ℕ) (text : List ℕ) (value : Value) → ValueText form width text value → length (encoded width value) ≡ width
value_size Integer width text (Number n) h = length_digits width n
value_size Alpha width text (Bytes bytes) h = ap length h.filled ∙ omega (arith, length-append h.short (replicate (width - length h.short) 32), length-replicate {A = ℕ} (width - length h.short) 32, h.within)
value_size Integer width text (Bytes bytes) h = absurd h
value_size Alpha width text (Number n) h = absurd h

-- values that words denote fill the fields
texts_size : (from : ℕ) (fs : List Field) (to : ℕ) (ws : List (List ℕ)) (vs : List Value) → Tile from fs to → FieldTexts fs ws vs → from + length (encoding fs vs) ≡ to
texts_size from [] to [] [] t h = omega (arith, t)
texts_size from (f ∷ fs) to (w ∷ ws) (v ∷ vs) t h =
    omega (arith, length-append (encoded f.width v) (encoding fs vs), value_size f.form f.width h.0.0 v h.0.2, texts_size (from + f.width) fs to ws vs t.1 h.1)
texts_size from [] to [] (v ∷ vs) t h = absurd h
texts_size from [] to (w ∷ ws) vs t h = absurd h
texts_size from (f ∷ fs) to [] vs t h = absurd h
texts_size from (f ∷ fs) to (w ∷ ws) [] t h = absurd h

-- a payload that words denote has its layout's size
payload_size : (layout : Layout) (ws : List (List ℕ)) (vs : List Value) → IsTrue (is_sound layout) → values_in (fields layout) ws ≡ Some vs → length (layout.kind ∷ encoding (fields layout) vs) ≡ layout.size
payload_size layout ws vs s h =
    let n : 1 + length (encoding (fields layout) vs) ≡ layout.size = texts_size 1 (fields layout) layout.size ws vs (tile_of 1 (fields layout) layout.size (layout_tiles layout s)) (values_sound (fields layout) ws vs h) in
    omega arith

-- the bytes of a message's entry, by the values of its fields
abbrev pub entry_by : Layout → Option (List Value) → Option (List ℕ)
entry_by layout o = option_map item_bytes (option_map (λ vs. Entry (layout.kind ∷ encoding (fields layout) vs)) o)

message_by : (old begun new : List ℕ) (layout : Layout) (ws : List (List ℕ)) (o : Option (List Value)) → values_in (fields layout) ws ≡ o → IsTrue (is_sound layout) → begun ≡ (old ++ to_be_bytes w16 layout.size) ++ layout.kind ∷ [] → extended begun (option_map (encoding (fields layout)) o) ≡ Some new → extended old (entry_by layout o) ≡ Some new
message_by old begun new layout ws None e s m h = absurd (none-some new h)
message_by old begun new layout ws (Some vs) e s m h =
    let bytes = encoding (fields layout) vs in
    let n : length (layout.kind ∷ bytes) ≡ layout.size = payload_size layout ws vs s e in
    ap (λ k. Some (old ++ (to_be_bytes w16 k ++ (layout.kind ∷ bytes)))) n
    ∙ ap Some (sym (append_assoc old (to_be_bytes w16 layout.size) (layout.kind ∷ bytes)) ∙ sym (append_assoc (old ++ to_be_bytes w16 layout.size) (layout.kind ∷ []) bytes) ∙ ap (λ (xs : List ℕ). xs ++ bytes) (sym m))
    ∙ h

no_message_by : (layout : Layout) (o : Option (List Value)) → option_map (encoding (fields layout)) o ≡ None → entry_by layout o ≡ None
no_message_by layout None h = refl
no_message_by layout (Some vs) h = absurd (none-some (encoding (fields layout) vs) (sym h))

-- what the fields of one list and then another append
abbrev pub Appends : List ℕ → List ℕ → List Field → List (List ℕ) → List (List ℕ) → Type 0
Appends old new fs ws left = (others : List Field) → extended old (fields_bytes (fs ++ others) ws) ≡ extended new (fields_bytes others left)

both : (begun headed new : List ℕ) (layout : Layout) (heads : List Field) (ws ws' left : List (List ℕ)) → heads ≡ head_fields → Appends begun headed heads ws ws' → Appends headed new layout.body ws' left → extended begun (fields_bytes (fields layout) ws) ≡ extended new (fields_bytes [] left)
both begun headed new layout heads ws ws' left e h k =
    let whole : heads ++ layout.body ≡ fields layout = ap (λ (fs : List Field). fs ++ layout.body) e in
    ap (λ (fs : List Field). extended begun (fields_bytes fs ws)) (sym whole) ∙ h layout.body ∙ ap (λ (fs : List Field). extended headed (fields_bytes fs ws')) (sym (append-nil layout.body)) ∙ k []

pub message_put : (old begun headed new : List ℕ) (layout : Layout) (heads : List Field) (ws ws' left : List (List ℕ)) → IsTrue (is_sound layout) → begun ≡ (old ++ to_be_bytes w16 layout.size) ++ layout.kind ∷ [] → heads ≡ head_fields → Appends begun headed heads ws ws' → Appends headed new layout.body ws' left → left ≡ [] → extended old (entry_by layout (values_in (fields layout) ws)) ≡ Some new
message_put old begun headed new layout heads ws ws' left s m e h k l =
    let all : extended begun (fields_bytes (fields layout) ws) ≡ Some new = both begun headed new layout heads ws ws' left e h k ∙ rw l (ap Some (append-nil new)) in
    message_by old begun new layout ws (values_in (fields layout) ws) refl s m all

pub words_left : (begun headed new : List ℕ) (layout : Layout) (heads : List Field) (ws ws' left : List (List ℕ)) (w : List ℕ) (more : List (List ℕ)) → heads ≡ head_fields → Appends begun headed heads ws ws' → Appends headed new layout.body ws' left → left ≡ w ∷ more → entry_by layout (values_in (fields layout) ws) ≡ None
words_left begun headed new layout heads ws ws' left w more e h k l =
    no_message_by layout (values_in (fields layout) ws) (nothing_extends begun _ (both begun headed new layout heads ws ws' left e h k ∙ rw l refl))

pub head_refused : (old begun new new' : List ℕ) (layout : Layout) (heads : List Field) (ws : List (List ℕ)) (error : LineError) → heads ≡ head_fields → PutsFields begun new heads ws (Err error) → Puts old new' (entry_by layout (values_in (fields layout) ws)) (Err error)
head_refused old begun new new' layout heads ws Memory e h = tt
head_refused old begun new new' layout heads ws (Wrong fault) e h =
    (h.0, no_message_by layout (values_in (fields layout) ws) (subst (λ fs. fields_bytes (fs ++ layout.body) ws ≡ None) e (h.1 layout.body)))

pub body_refused : (old begun headed new new' : List ℕ) (layout : Layout) (heads : List Field) (ws ws' : List (List ℕ)) (error : LineError) → heads ≡ head_fields → Appends begun headed heads ws ws' → PutsFields headed new layout.body ws' (Err error) → Puts old new' (entry_by layout (values_in (fields layout) ws)) (Err error)
body_refused old begun headed new new' layout heads ws ws' Memory e h k = tt
body_refused old begun headed new new' layout heads ws ws' (Wrong fault) e h k =
    let none : fields_bytes layout.body ws' ≡ None = ap (λ (fs : List Field). fields_bytes fs ws') (sym (append-nil layout.body)) ∙ k.1 [] in
    let whole : heads ++ layout.body ≡ fields layout = ap (λ (fs : List Field). fs ++ layout.body) e in
    (k.0, no_message_by layout (values_in (fields layout) ws) (nothing_extends begun _ (ap (λ (fs : List Field). extended begun (fields_bytes fs ws)) (sym whole) ∙ h layout.body ∙ ap (extended headed) none)))

-- the words of a line that has a first word, or none
pub some_words : {X : Type 0} (first : X → List ℕ) (others : X → List (List ℕ)) (o : Option X) (ws : List (List ℕ)) → is_some o ≡ true → MatchOption o (ws ≡ []) (λ x. ws ≡ first x ∷ others x) → (w : List ℕ) × (more : List (List ℕ)) × (ws ≡ w ∷ more)
some_words first others (Some x) ws h m = (first x, others x, m)
some_words first others None ws h m = absurd (false≢true h)

pub none_left : {X : Type 0} (first : X → List ℕ) (others : X → List (List ℕ)) (o : Option X) (ws : List (List ℕ)) → is_some o ≡ false → MatchOption o (ws ≡ []) (λ x. ws ≡ first x ∷ others x) → ws ≡ []
none_left first others (Some x) ws h m = absurd (true≢false h)
none_left first others None ws h m = m
