-- Parsing the words of a line gives an item exactly where they denote it.
use Rattle.std.proofs.Common.{◌≡◌, inl, inr, ℕ, ◌<◌, ◌==◌, Bool, true, false, cond, if◌then◌else◌, List, [], ◌∷◌, length, Option, Some, None, Result, Ok, Err, option_map, codes, refl, sym, ap, ap₂, ◌∙◌, subst, arith, eqb-true, ltb-true, lt-ltb, ne_eqb}
use Rattle.std.proofs.lemmas.Bool.{and_parts, cases_eq, false≢true}
use Rattle.std.proofs.lemmas.Option.{same_Some, none-some}
use Rattle.itch_layouts.specs.Layouts.{Layout, fields, layout_of_mnemonic}
use Rattle.itch_layouts.specs.Encoding.{encoding}
use Rattle.binaryfile.specs.Entries.{IsPartial}
use Rattle.hex.specs.Hex.{decode_of}
use Rattle.hex.specs.declared.error.FromHexError.{FromHexError}
use Rattle.itch_text.specs.Items.{Item, Nothing, Entry, End, Cut, Rest, Denotes, IsComment, is_comment, HexText, IsHexLine, IsMessage}
use Rattle.itch_text.specs.Faults.{Name, Message, RawName, EndName, CutName, RestName, name_of, name_or, word_name, is}
use Rattle.itch_text.specs.Parsing.{some_bytes, bytes_in, hex_in, is_partial, is_short, when, item_in, values_in}
use Rattle.itch_text.proofs.FieldParsing.{guarded, values_sound, values_complete}

pub bytes_complete : (text bytes : List ℕ) → HexText text bytes → bytes_in text ≡ Some bytes
unfolding bytes_in
bytes_complete text [] h = absurd (omega (arith, h.1))
bytes_complete text (b ∷ bs) h = rw h.0 refl

some_bytes_sound : (r : Result (List ℕ) FromHexError) (bytes : List ℕ) → some_bytes r ≡ Some bytes → (r ≡ Ok bytes) × (0 < length bytes)
some_bytes_sound (Ok []) bytes h = absurd (none-some bytes h)
some_bytes_sound (Ok (b ∷ bs)) bytes h = (ap Ok (same_Some _ _ h), subst (λ xs. 0 < length xs) (same_Some _ _ h) (omega arith))
some_bytes_sound (Err e) bytes h = absurd (none-some bytes h)

pub bytes_sound : (text bytes : List ℕ) → bytes_in text ≡ Some bytes → HexText text bytes
unfolding bytes_in
bytes_sound text bytes h = some_bytes_sound (decode_of text) bytes h

hex_sound : (ws : List (List ℕ)) (bytes : List ℕ) → hex_in ws ≡ Some bytes → (text : List ℕ) × (ws ≡ text ∷ []) × HexText text bytes
hex_sound [] bytes h = absurd (none-some bytes h)
hex_sound (w ∷ []) bytes h = (w, refl, bytes_sound w bytes h)
hex_sound (w ∷ x ∷ ws) bytes h = absurd (none-some bytes h)

partial_complete : (bytes : List ℕ) → IsPartial bytes → is_partial bytes ≡ true
partial_complete [] h = refl
partial_complete (x ∷ []) h = refl
partial_complete (high ∷ low ∷ rest) h = lt-ltb _ _ h

partial_sound : (bytes : List ℕ) → is_partial bytes ≡ true → IsPartial bytes
partial_sound [] h = tt
partial_sound (x ∷ []) h = tt
partial_sound (high ∷ low ∷ rest) h = ltb-true _ _ h

-- ---- names

-- the word of a name
abbrev IsName : List ℕ → Name → Type 0
IsName word (Message layout) = layout_of_mnemonic word ≡ Some layout
IsName word RawName = word ≡ codes "raw"
IsName word EndName = word ≡ codes "end"
IsName word CutName = word ≡ codes "cut"
IsName word RestName = word ≡ codes "rest"

same_lists : (a b : List ℕ) → is a b ≡ true → a ≡ b
same_lists [] [] h = refl
same_lists [] (y ∷ b) h = absurd (false≢true h)
same_lists (x ∷ a) [] h = absurd (false≢true h)
same_lists (x ∷ a) (y ∷ b) h = let p = and_parts (x == y) (is a b) h in ap₂ (λ z zs. z ∷ zs) (eqb-true x y p.0) (same_lists a b p.1)

same_word : (name word : List ℕ) → is name word ≡ true → word ≡ name
same_word name word h = sym (same_lists name word h)

chain_sound : (P : Name → Type 0) (b c d e : Bool) (name : Name) → (b ≡ true → P RawName) → (c ≡ true → P EndName) → (d ≡ true → P CutName) → (e ≡ true → P RestName) → cond b (Some RawName) (cond c (Some EndName) (cond d (Some CutName) (cond e (Some RestName) None))) ≡ Some name → P name
chain_sound P true c d e name p q r s h = subst P (same_Some _ _ h) (p refl)
chain_sound P false true d e name p q r s h = subst P (same_Some _ _ h) (q refl)
chain_sound P false false true e name p q r s h = subst P (same_Some _ _ h) (r refl)
chain_sound P false false false true name p q r s h = subst P (same_Some _ _ h) (s refl)
chain_sound P false false false false name p q r s h = absurd (none-some name h)

named_sound : (word : List ℕ) (o : Option Layout) (name : Name) → layout_of_mnemonic word ≡ o → name_or o (word_name word) ≡ Some name → IsName word name
named_sound word (Some layout) name e h = subst (IsName word) (same_Some _ _ h) e
named_sound word None name e h = chain_sound (IsName word) (is (codes "raw") word) (is (codes "end") word) (is (codes "cut") word) (is (codes "rest") word) name (same_word _ word) (same_word _ word) (same_word _ word) (same_word _ word) h

name_sound : (word : List ℕ) (name : Name) → name_of word ≡ Some name → IsName word name
unfolding name_of
name_sound word name h = named_sound word (layout_of_mnemonic word) name refl h

name_raw : name_of (codes "raw") ≡ Some RawName
unfolding name_of layout_of_mnemonic
name_raw = refl

name_end : name_of (codes "end") ≡ Some EndName
unfolding name_of layout_of_mnemonic
name_end = refl

name_cut : name_of (codes "cut") ≡ Some CutName
unfolding name_of layout_of_mnemonic
name_cut = refl

name_rest : name_of (codes "rest") ≡ Some RestName
unfolding name_of layout_of_mnemonic
name_rest = refl

name_message : (word : List ℕ) (layout : Layout) → layout_of_mnemonic word ≡ Some layout → name_of word ≡ Some (Message layout)
unfolding name_of
name_message word layout h = rw h refl

-- no mnemonic begins with `#`
not_comment : (word : List ℕ) (layout : Layout) → layout_of_mnemonic word ≡ Some layout → is_comment word ≡ false
unfolding layout_of_mnemonic
not_comment [] layout h = refl
not_comment (b ∷ bs) layout h = elim (cases_eq b 35) [
  | inl e ↦ absurd (none-some layout (rw e at h))
  | inr n ↦ ne_eqb b 35 n
]

-- ---- what is denoted is parsed

abbrev pub named_item : Option Name → List (List ℕ) → Option Item
named_item None ws = None
named_item (Some name) ws = item_in name ws

-- the item that the words of a line denote
abbrev pub item_of : List (List ℕ) → Option Item
item_of [] = Some Nothing
item_of (w ∷ ws) = if is_comment w then Some Nothing else named_item (name_of w) ws

comment_read : (ws : List (List ℕ)) → IsComment ws → item_of ws ≡ Some Nothing
comment_read [] h = absurd h
comment_read (w ∷ ws) h = rw h refl

message_read : (ws : List (List ℕ)) (payload : List ℕ) → IsMessage ws payload → item_of ws ≡ Some (Entry payload)
message_read ws payload m = rw (m.parts, not_comment m.word m.layout m.known, name_message m.word m.layout m.known, values_complete (fields m.layout) m.texts m.values m.denoted, m.whole) refl

raw_read : (ws : List (List ℕ)) (payload : List ℕ) → IsHexLine (codes "raw") ws payload → length payload < 65536 → item_of ws ≡ Some (Entry payload)
raw_read ws payload h l = rw (h.1, name_raw, bytes_complete h.0 payload h.2, lt-ltb (length payload) 65536 l) refl

end_read : (ws : List (List ℕ)) → ws ≡ codes "end" ∷ [] → item_of ws ≡ Some End
end_read ws h = rw (h, name_end) refl

cut_read : (ws : List (List ℕ)) (bytes : List ℕ) → IsHexLine (codes "cut") ws bytes → IsPartial bytes → item_of ws ≡ Some (Cut bytes)
cut_read ws bytes h p = rw (h.1, name_cut, bytes_complete h.0 bytes h.2, partial_complete bytes p) refl

rest_read : (ws : List (List ℕ)) (bytes : List ℕ) → IsHexLine (codes "rest") ws bytes → item_of ws ≡ Some (Rest bytes)
rest_read ws bytes h = rw (h.1, name_rest, bytes_complete h.0 bytes h.2) refl

pub item_complete : (ws : List (List ℕ)) (item : Item) → Denotes ws item → item_of ws ≡ Some item
item_complete ws Nothing h = elim h [ inl e ↦ rw e refl | inr c ↦ comment_read ws c ]
item_complete ws (Entry payload) h = elim h [ inl m ↦ message_read ws payload m | inr r ↦ raw_read ws payload r.0 r.1.1 ]
item_complete ws End h = end_read ws h
item_complete ws (Cut bytes) h = cut_read ws bytes h.0 h.1
item_complete ws (Rest bytes) h = rest_read ws bytes h

-- a line denotes at most one item
pub one_item : (ws : List (List ℕ)) (a b : Item) → Denotes ws a → Denotes ws b → a ≡ b
one_item ws a b h k = same_Some _ _ (sym (item_complete ws a h) ∙ item_complete ws b k)

-- ---- what is parsed is denoted

pub map_some : {X Y : Type 0} (f : X → Y) (o : Option X) (y : Y) → option_map f o ≡ Some y → (x : X) × (o ≡ Some x) × (f x ≡ y)
map_some f None y h = absurd (none-some y h)
map_some f (Some x) y h = (x, refl, same_Some _ _ h)

when_some : {X : Type 0} (test : X → Bool) (o : Option X) (x : X) → when test o ≡ Some x → (o ≡ Some x) × (test x ≡ true)
when_some test None x h = absurd (none-some x h)
when_some test (Some y) x h =
    let g = guarded (test y) (Some y) x h in
    (g.1, subst (λ z. test z ≡ true) (same_Some _ _ g.1) g.0)

item_sound_by : (w : List ℕ) (ws : List (List ℕ)) (item : Item) (name : Name) → IsName w name → item_in name ws ≡ Some item → Denotes (w ∷ ws) item
item_sound_by w ws item (Message layout) e h =
    let v = map_some (λ vs. Entry (layout.kind ∷ encoding (fields layout) vs)) (values_in (fields layout) ws) item h in
    let message : IsMessage (w ∷ ws) (layout.kind ∷ encoding (fields layout) v.0) = record { layout = layout; word = w; texts = ws; values = v.0; known = e; parts = refl; denoted = values_sound (fields layout) ws v.0 v.1; whole = refl } in
    subst (Denotes (w ∷ ws)) v.2 (inl message)
item_sound_by w ws item RawName e h =
    let v = map_some Entry (when is_short (hex_in ws)) item h in
    let t = when_some is_short (hex_in ws) v.0 v.1 in
    let x = hex_sound ws v.0 t.0 in
    subst (Denotes (w ∷ ws)) v.2 (inr ((x.0, ap₂ (λ z zs. z ∷ zs) e x.1, x.2), (x.2.1, ltb-true (length v.0) 65536 t.1)))
item_sound_by w [] item EndName e h = subst (Denotes (w ∷ [])) (same_Some _ _ h) (ap (λ z. z ∷ []) e)
item_sound_by w (x ∷ ws) item EndName e h = absurd (none-some item h)
item_sound_by w ws item CutName e h =
    let v = map_some Cut (when is_partial (hex_in ws)) item h in
    let t = when_some is_partial (hex_in ws) v.0 v.1 in
    let x = hex_sound ws v.0 t.0 in
    subst (Denotes (w ∷ ws)) v.2 ((x.0, ap₂ (λ z zs. z ∷ zs) e x.1, x.2), partial_sound v.0 t.1)
item_sound_by w ws item RestName e h =
    let v = map_some Rest (hex_in ws) item h in
    let x = hex_sound ws v.0 v.1 in
    subst (Denotes (w ∷ ws)) v.2 (x.0, ap₂ (λ z zs. z ∷ zs) e x.1, x.2)

pub item_sound : (w : List ℕ) (ws : List (List ℕ)) (item : Item) (name : Name) → name_of w ≡ Some name → item_in name ws ≡ Some item → Denotes (w ∷ ws) item
item_sound w ws item name e h = item_sound_by w ws item name (name_sound w name e) h
