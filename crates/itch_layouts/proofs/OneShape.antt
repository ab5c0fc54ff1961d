-- The function of a payload's shape and the relation of its meaning agree.
use Rattle.std.proofs.Common.{◌≡◌, ◌∙◌, ◌==◌, ◌+◌, ◌≤◌, ℕ, sym, ap, refl, List, [], ◌∷◌, length, map, Option, Some, None, Bool, true, false, cond, inl, inr, option_map, arith}
use Rattle.std.proofs.lemmas.Bool.{eqb-true, eqb-false}
use Rattle.std.specs.List.{find}
use Rattle.itch_layouts.specs.Layouts.{Layout, Field, Form, Integer, Alpha, Value, Number, Bytes, fields, bytes_at, number_at, value_at, value_of, values_at}
use Rattle.itch_layouts.specs.Means.{layout_of, values_of, Means, Reads}
use Rattle.itch_layouts.specs.Shapes.{Decoder, decoders, first_byte, has_kind, shape_by, shape_of}
use Rattle.itch_layouts.specs.Soundness.{tiles}
use Rattle.itch_layouts.specs.declared.shape.Shape.TheVariants.{Known, BadLength}
use Rattle.itch_layouts.proofs.EncodedFields.{Tile, Tile-le, tile_of}
use Rattle.itch_layouts.proofs.Finding.{same_on_found, found_passes}
use Rattle.itch_layouts.proofs.Numbers.{length_bytes_at}
use Rattle.itch_layouts.proofs.Uniqueness.{reads_shape, sized}

-- the value of a field as a decoder makes it: a text of one byte is the first of its bytes
abbrev decoded : Form → ℕ → ℕ → List ℕ → Value
decoded Integer offset width payload = Number (number_at offset width payload)
decoded Alpha offset width payload =
    cond (width == 1) (Bytes (first_byte (bytes_at offset width payload) ∷ [])) (Bytes (bytes_at offset width payload))

abbrev decoded_at : List ℕ → Field → Value
decoded_at payload field = decoded field.form field.offset field.width payload

-- a decoder's message has its layout and its values, and the fields of its layout fill the payload
abbrev layout_again : Decoder → List Value → Layout
layout_again d vs = layout_of (d.message vs)

abbrev own_layout : Decoder → List Value → Layout
own_layout d vs = d.layout

layouts_again : map layout_again decoders ≡ map own_layout decoders
layouts_again = refl

abbrev values_again : Decoder → List ℕ → List Value
values_again d p = values_of (d.message (values_at d.layout p))

abbrev own_values : Decoder → List ℕ → List Value
own_values d p = map (decoded_at p) (fields d.layout)

all_values_again : map values_again decoders ≡ map own_values decoders
all_values_again = refl

all_tile : map (λ (d : Decoder). tiles 1 (fields d.layout) d.layout.size) decoders ≡ map (λ (d : Decoder). true) decoders
all_tile = refl

one_byte : (bs : List ℕ) → length bs ≡ 1 → first_byte bs ∷ [] ≡ bs
one_byte [] l = absurd (omega arith)
one_byte (b ∷ []) l = refl
one_byte (b ∷ c ∷ bs) l = absurd (omega arith)

decoded_value : (form : Form) (offset width : ℕ) (payload : List ℕ) → offset + width ≤ length payload → decoded form offset width payload ≡ value_of form offset width payload
decoded_value Integer offset width payload l = refl
decoded_value Alpha offset width payload l =
    elim (width == 1) as (λ (b : Bool). (width == 1) ≡ b → cond b (Bytes (first_byte (bytes_at offset width payload) ∷ [])) (Bytes (bytes_at offset width payload)) ≡ Bytes (bytes_at offset width payload)) [
      | true ↦ λ one. ap Bytes (one_byte (bytes_at offset width payload) (length_bytes_at offset width payload l ∙ eqb-true width 1 one))
      | false ↦ λ other. refl
    ] refl

decoded_values : (payload : List ℕ) (from : ℕ) (fs : List Field) (to : ℕ) → Tile from fs to → to ≤ length payload → map (decoded_at payload) fs ≡ map (value_at payload) fs
decoded_values payload from [] to t l = refl
decoded_values payload from (f ∷ fs) to t l =
    let first : decoded_at payload f ≡ value_at payload f = decoded_value f.form f.offset f.width payload (omega (arith, t.0, Tile-le (from + f.width) fs to t.1)) in
    let others : map (decoded_at payload) fs ≡ map (value_at payload) fs = decoded_values payload (from + f.width) fs to t.1 l in
    cc

-- a payload of a decoder's layout means its message
means_decoded : (kind : ℕ) (rest : List ℕ) (d : Decoder) → find (has_kind kind) decoders ≡ Some d → length (kind ∷ rest) ≡ d.layout.size → Means (kind ∷ rest) (d.message (values_at d.layout (kind ∷ rest)))
means_decoded kind rest d is size =
    let payload : List ℕ = kind ∷ rest in
    let found_kind : d.layout.kind ≡ kind = eqb-true d.layout.kind kind (found_passes (has_kind kind) decoders d is) in
    let layout : layout_of (d.message (values_at d.layout (kind ∷ rest))) ≡ d.layout =
    ap (λ (f : List Value → Layout). f (values_at d.layout (kind ∷ rest)))
    (same_on_found layout_again own_layout (has_kind kind) decoders d layouts_again is) in
    let tile : Tile 1 (fields d.layout) d.layout.size = tile_of 1 (fields d.layout) d.layout.size
    (same_on_found (λ (e : Decoder). tiles 1 (fields e.layout) e.layout.size) (λ (e : Decoder). true) (has_kind kind) decoders d all_tile is) in
    let values : values_of (d.message (values_at d.layout (kind ∷ rest))) ≡ values_at d.layout (kind ∷ rest) =
    ap (λ (f : List ℕ → List Value). f (kind ∷ rest))
    (same_on_found values_again own_values (has_kind kind) decoders d all_values_again is)
    ∙ decoded_values (kind ∷ rest) 1 (fields d.layout) d.layout.size tile (omega (arith, size)) in
    ((sym found_kind ∙ ap (λ (l : Layout). l.kind) (sym layout), size ∙ ap (λ (l : Layout). l.size) (sym layout)), values ∙ ap (λ (l : Layout). values_at l (kind ∷ rest)) (sym layout))

reads_by : (kind : ℕ) (rest : List ℕ) (o : Option Decoder) → find (has_kind kind) decoders ≡ o → Reads (kind ∷ rest) (shape_by (kind ∷ rest) o)
reads_by kind rest None is = inr (sized kind ∙ ap (option_map (λ (d : Decoder). d.layout.size)) is)
reads_by kind rest (Some d) is =
    elim (length (kind ∷ rest) == d.layout.size) as (λ (b : Bool). (length (kind ∷ rest) == d.layout.size) ≡ b → Reads (kind ∷ rest) (cond b (Known (d.message (values_at d.layout (kind ∷ rest)))) BadLength)) [
      | true ↦ λ same. means_decoded kind rest d is (eqb-true (length (kind ∷ rest)) d.layout.size same)
      | false ↦ λ other. (d.layout.size, sized kind ∙ ap (option_map (λ (e : Decoder). e.layout.size)) is, eqb-false (length (kind ∷ rest)) d.layout.size other)
    ] refl

-- a payload reads as its shape
pub reads_shape_of : (payload : List ℕ) → Reads payload (shape_of payload)
unfolding shape_of
reads_shape_of [] = inl refl
reads_shape_of (kind ∷ rest) = reads_by kind rest (find (has_kind kind) decoders) refl

pub ruleset shapes = (reads_shape_of, reads_shape)
