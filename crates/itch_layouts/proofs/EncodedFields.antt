-- What is encoded field by field is read again, and what is read is encoded as the bytes that it was read from.
use Rattle.std.proofs.Common.{IsTrue, ◌==◌, ◌≡◌, ℕ, ◌+◌, ◌<◌, ◌≤◌, ◌∙◌, sym, ap, refl, List, [], ◌∷◌, ◌++◌, length, drop, map, arith, subst, ◌^◌, append_assoc, length-append}
use Rattle.std.proofs.Math.Seq.{drop-append_seam, take-append_seam}
use Rattle.std.proofs.lemmas.List.{take-append-drop, drop-drop}
use Rattle.std.proofs.lemmas.List.Elements.{All-nil, All-append, All-take, All-drop}
use Rattle.std.proofs.lemmas.Bool.{and_parts, eqb-true}
use Rattle.byte_strings.specs.Bytes.{AreBytes, IsByte}
use Rattle.itch_layouts.specs.Layouts.{Field, Form, Integer, Alpha, Value, Number, Bytes, value_of, value_at, bytes_at, number_at, big_endian}
use Rattle.itch_layouts.specs.Encoding.{digits, Fit, FitsField, encoded, encoding}
use Rattle.itch_layouts.specs.Soundness.{tiles}
use Rattle.itch_layouts.proofs.Digits.{length_digits, big_endian_digits, big_endian_below, digits_big_endian, AreBytes-digits}
use Rattle.itch_layouts.proofs.Numbers.{length_bytes_at}

pub AreBytes-bytes_at : (o w : ℕ) (p : List ℕ) → AreBytes p → AreBytes (bytes_at o w p)
unfolding bytes_at
AreBytes-bytes_at o w p h = All-take IsByte w (drop o p) (All-drop IsByte o p h)

AreBytes-encoded : (f : Form) (w : ℕ) (v : Value) → FitsField f w v → AreBytes (encoded w v)
AreBytes-encoded Integer w (Number n) h = AreBytes-digits w n h
AreBytes-encoded Alpha w (Bytes bs) h = h.1
AreBytes-encoded Integer w (Bytes bs) h = absurd h
AreBytes-encoded Alpha w (Number n) h = absurd h

-- values that fit are encoded as bytes
pub AreBytes-encoding : (fs : List Field) (vs : List Value) → Fit fs vs → AreBytes (encoding fs vs)
AreBytes-encoding [] [] h = All-nil IsByte
AreBytes-encoding [] (v ∷ vs) h = absurd h
AreBytes-encoding (f ∷ fs) [] h = absurd h
AreBytes-encoding (f ∷ fs) (v ∷ vs) h =
    All-append IsByte (encoded f.width v) (encoding fs vs) (AreBytes-encoded f.form f.width v h.0) (AreBytes-encoding fs vs h.1)

bytes_between : (o w : ℕ) (prefix bytes rest : List ℕ) → o ≡ length prefix → w ≡ length bytes → bytes_at o w (prefix ++ (bytes ++ rest)) ≡ bytes
unfolding bytes_at
bytes_between o w prefix bytes rest eo ew =
    rw (eo, ew, drop-append_seam prefix (bytes ++ rest)) (take-append_seam bytes rest)

length_encoded : (f : Form) (w : ℕ) (v : Value) → FitsField f w v → length (encoded w v) ≡ w
length_encoded Integer w (Number n) h = length_digits w n
length_encoded Alpha w (Bytes bs) h = h.0
length_encoded Integer w (Bytes bs) h = absurd h
length_encoded Alpha w (Number n) h = absurd h

-- a value is read where it was encoded
value_between : (f : Form) (o w : ℕ) (v : Value) (prefix rest : List ℕ) → o ≡ length prefix → FitsField f w v → value_of f o w (prefix ++ (encoded w v ++ rest)) ≡ v
unfolding number_at
value_between Integer o w (Number n) prefix rest eo h =
    ap Number (ap big_endian (bytes_between o w prefix (digits w n) rest eo (sym (length_digits w n))) ∙ big_endian_digits w n h)
value_between Alpha o w (Bytes bs) prefix rest eo h = ap Bytes (bytes_between o w prefix bs rest eo (sym h.0))
value_between Integer o w (Bytes bs) prefix rest eo h = absurd h
value_between Alpha o w (Number n) prefix rest eo h = absurd h

-- the value that is read from bytes is encoded as these bytes
encoded_value : (f : Form) (o w : ℕ) (p : List ℕ) → AreBytes p → o + w ≤ length p → encoded w (value_of f o w p) ≡ bytes_at o w p
unfolding number_at
encoded_value Integer o w p h l =
    ap (λ k. digits k (big_endian (bytes_at o w p))) (sym (length_bytes_at o w p l)) ∙ digits_big_endian (bytes_at o w p) (AreBytes-bytes_at o w p h)
encoded_value Alpha o w p h l = refl

-- the value that is read from bytes fits its field
value_fits : (f : Form) (o w : ℕ) (p : List ℕ) → AreBytes p → o + w ≤ length p → FitsField f w (value_of f o w p)
unfolding number_at
value_fits Integer o w p h l =
    subst (λ (k : ℕ). big_endian (bytes_at o w p) < 256 ^ k) (length_bytes_at o w p l) (big_endian_below (bytes_at o w p) (AreBytes-bytes_at o w p h))
value_fits Alpha o w p h l = (length_bytes_at o w p l, AreBytes-bytes_at o w p h)

-- the fields follow one another from one offset to another
abbrev pub Tile : ℕ → List Field → ℕ → Type 0
Tile from [] to = from ≡ to
Tile from (f ∷ fs) to = (f.offset ≡ from) × Tile (from + f.width) fs to

pub tile_of : (from : ℕ) (fs : List Field) (to : ℕ) → IsTrue (tiles from fs to) → Tile from fs to
tile_of from [] to t = eqb-true from to t
tile_of from (f ∷ fs) to t =
    let both = and_parts (f.offset == from) (tiles (from + f.width) fs to) t in
    (eqb-true f.offset from both.0, tile_of (from + f.width) fs to both.1)

pub Tile-le : (from : ℕ) (fs : List Field) (to : ℕ) → Tile from fs to → from ≤ to
Tile-le from [] to t = omega arith
Tile-le from (f ∷ fs) to t = omega (arith, Tile-le (from + f.width) fs to t.1)

pub length_encoding : (from : ℕ) (fs : List Field) (to : ℕ) (vs : List Value) → Tile from fs to → Fit fs vs → from + length (encoding fs vs) ≡ to
length_encoding from [] to [] t h = omega arith
length_encoding from [] to (v ∷ vs) t h = absurd h
length_encoding from (f ∷ fs) to [] t h = absurd h
length_encoding from (f ∷ fs) to (v ∷ vs) t h =
    omega (arith, length-append (encoded f.width v) (encoding fs vs), length_encoded f.form f.width v h.0, length_encoding (from + f.width) fs to vs t.1 h.1)

-- what is encoded after the prefix is read again
pub values_encoded : (prefix : List ℕ) (fs : List Field) (to : ℕ) (vs : List Value) → Tile (length prefix) fs to → Fit fs vs → map (value_at (prefix ++ encoding fs vs)) fs ≡ vs
values_encoded prefix [] to [] t h = refl
values_encoded prefix [] to (v ∷ vs) t h = absurd h
values_encoded prefix (f ∷ fs) to [] t h = absurd h
values_encoded prefix (f ∷ fs) to (v ∷ vs) t h =
    let first : value_at (prefix ++ (encoded f.width v ++ encoding fs vs)) f ≡ v = value_between f.form f.offset f.width v prefix (encoding fs vs) t.0 h.0 in
    let length_at : length (prefix ++ encoded f.width v) ≡ length prefix + f.width = rw (length-append prefix (encoded f.width v), length_encoded f.form f.width v h.0) refl in
    let others : map (value_at ((prefix ++ encoded f.width v) ++ encoding fs vs)) fs ≡ vs =
    values_encoded (prefix ++ encoded f.width v) fs to vs (rw length_at t.1) h.1 in
    let others' : map (value_at (prefix ++ (encoded f.width v ++ encoding fs vs))) fs ≡ vs =
    rw (append_assoc prefix (encoded f.width v) (encoding fs vs)) at others in
    cc

rejoined : (p : List ℕ) (o w : ℕ) → bytes_at o w p ++ drop (o + w) p ≡ drop o p
unfolding bytes_at
rejoined p o w = rw (← drop-drop w o p) (take-append-drop w (drop o p))

-- what is read is encoded as the bytes again
pub encoded_values : (p : List ℕ) (from : ℕ) (fs : List Field) (to : ℕ) → AreBytes p → Tile from fs to → to ≤ length p → encoding fs (map (value_at p) fs) ++ drop to p ≡ drop from p
encoded_values p from [] to h t l = ap (λ k. drop k p) (sym t)
encoded_values p from (f ∷ fs) to h t l =
    let within : f.offset + f.width ≤ length p = omega (arith, Tile-le (from + f.width) fs to t.1) in
    let first : encoded f.width (value_at p f) ≡ bytes_at f.offset f.width p = encoded_value f.form f.offset f.width p h within in
    let others : encoding fs (map (value_at p) fs) ++ drop to p ≡ drop (from + f.width) p = encoded_values p (from + f.width) fs to h t.1 l in
    append_assoc (encoded f.width (value_at p f)) (encoding fs (map (value_at p) fs)) (drop to p)
    ∙ rw (first, others, t.0) (rejoined p from f.width)

-- what is read fits the fields
pub values_fit : (p : List ℕ) (from : ℕ) (fs : List Field) (to : ℕ) → AreBytes p → Tile from fs to → to ≤ length p → Fit fs (map (value_at p) fs)
values_fit p from [] to h t l = tt
values_fit p from (f ∷ fs) to h t l =
    (value_fits f.form f.offset f.width p h (omega (arith, Tile-le (from + f.width) fs to t.1)), values_fit p (from + f.width) fs to h t.1 l)
