-- A payload is of one shape, and means at most one message.
use Rattle.std.proofs.Common.{◌≡◌, ◌≢◌, ℕ, ◌<◌, ◌∙◌, sym, ap, refl, List, [], ◌∷◌, length, map, Option, Some, None, Bool, true, false, cond, inl, inr, option_map, arith, ◌==◌, subst}
use Rattle.std.proofs.lemmas.Bool.{eq-eqb, ne_eqb}
use Rattle.std.specs.List.{find}
use Rattle.itch_layouts.specs.Layouts.{Layout, layout_of_kind, size_of, values_at, Value}
use Rattle.itch_layouts.specs.Means.{layout_of, values_of, Means, Reads}
use Rattle.itch_layouts.specs.Shapes.{Decoder, decoders, has_kind, shape_by, shape_of}
use Rattle.byte_strings.specs.Bytes.{AreBytes}
use Rattle.itch_layouts.specs.Encoding.{Fits}
use Rattle.itch_layouts.specs.declared.message.Msg.{Msg}
use Rattle.itch_layouts.specs.declared.message.Msg.TheVariants.{System}
use Rattle.itch_layouts.specs.declared.shape.Shape.{Shape}
use Rattle.itch_layouts.specs.declared.shape.Shape.TheVariants.{Known, Unknown, BadLength}
use Rattle.itch_layouts.proofs.OnePayload.{fits_payload}

-- a decoder of the message's layout, which makes the message again of the values of its fields
abbrev Makes : Msg → Option Decoder → Type 0
Makes m None = ⊥
Makes m (Some d) = (d.layout ≡ layout_of m) × (d.message (values_of m) ≡ m)

makes_found : (m : Msg) → Makes m (find (has_kind (layout_of m).kind) decoders)
makes_found (System head m) = (refl, refl)
makes_found m = (refl, refl)

-- no message is empty
not_empty : (m : Msg) → 0 < (layout_of m).size
not_empty (System head m) = omega arith
not_empty m = omega arith

known_by : (payload : List ℕ) (m : Msg) (o : Option Decoder) → Makes m o → Means payload m → shape_by payload o ≡ Known m
known_by payload m None makes h = absurd makes
known_by payload m (Some d) makes h =
    let size : (length payload == d.layout.size) ≡ true = eq-eqb _ _ (h.0.1 ∙ ap (λ (l : Layout). l.size) (sym makes.0)) in
    let values : values_at d.layout payload ≡ values_of m = ap (λ (l : Layout). values_at l payload) makes.0 ∙ sym h.1 in
    ap (λ (b : Bool). cond b (Known (d.message (values_at d.layout payload))) BadLength) size ∙ ap (λ (vs : List Value). Known (d.message vs)) values ∙ ap Known makes.1

-- a payload that means a message is of that shape
shape_of_means : (payload : List ℕ) (m : Msg) → Means payload m → shape_of payload ≡ Known m
unfolding shape_of
shape_of_means [] m h = let some : 0 < (layout_of m).size = not_empty m in absurd (omega (arith, h.0.1))
shape_of_means (kind ∷ rest) m h =
    ap (λ (k : ℕ). shape_by (kind ∷ rest) (find (has_kind k) decoders)) h.0.0 ∙ known_by (kind ∷ rest) m (find (has_kind (layout_of m).kind) decoders) (makes_found m) h

find_map : (p : Layout → Bool) (ds : List Decoder) → find p (map (λ (d : Decoder). d.layout) ds) ≡ option_map (λ (d : Decoder). d.layout) (find (λ (d : Decoder). p d.layout) ds)
find_map p [] = refl
find_map p (d ∷ ds) = elim (p d.layout) as (λ (b : Bool). cond b (Some d.layout) (find p (map (λ (d : Decoder). d.layout) ds)) ≡ option_map (λ (d : Decoder). d.layout) (cond b (Some d) (find (λ (d : Decoder). p d.layout) ds))) [
  | true ↦ refl
  | false ↦ find_map p ds
]

-- a type has a size where it has a decoder
pub sized : (kind : ℕ) → size_of kind ≡ option_map (λ (d : Decoder). d.layout.size) (find (has_kind kind) decoders)
unfolding size_of layout_of_kind
sized kind = ap (option_map (λ (l : Layout). l.size)) (find_map (λ (l : Layout). l.kind == kind) decoders) ∙ again (find (has_kind kind) decoders)
  where
    again : (o : Option Decoder) → option_map (λ (l : Layout). l.size) (option_map (λ (d : Decoder). d.layout) o) ≡ option_map (λ (d : Decoder). d.layout.size) o
    again None = refl
    again (Some d) = refl

unknown_by : (payload : List ℕ) (o : Option Decoder) → option_map (λ (d : Decoder). d.layout.size) o ≡ None → shape_by payload o ≡ Unknown
unknown_by payload None e = refl
unknown_by payload (Some d) e = absurd (some_none _ e)
  where
    some_none : (n : ℕ) → Some n ≡ None → ⊥
    some_none n e = cc

bad_length_by : (payload : List ℕ) (o : Option Decoder) (size : ℕ) → option_map (λ (d : Decoder). d.layout.size) o ≡ Some size → length payload ≢ size → shape_by payload o ≡ BadLength
bad_length_by payload None size e other = absurd (none_some size e)
  where
    none_some : (n : ℕ) → None ≡ Some n → ⊥
    none_some n e = cc
bad_length_by payload (Some d) size e other =
    let is : d.layout.size ≡ size = cc in
    ap (λ (b : Bool). cond b (Known (d.message (values_at d.layout payload))) BadLength) (ne_eqb (length payload) d.layout.size (λ same. other (same ∙ is)))

-- what a payload is read as is its shape
pub reads_shape : (payload : List ℕ) (shape : Shape) → Reads payload shape → shape ≡ shape_of payload
unfolding shape_of size_of layout_of_kind
reads_shape payload (Known m) h = sym (shape_of_means payload m h)
reads_shape [] Unknown h = refl
reads_shape (kind ∷ rest) Unknown (inl e) = absurd (omega arith)
reads_shape (kind ∷ rest) Unknown (inr e) = sym (unknown_by (kind ∷ rest) (find (has_kind kind) decoders) (sym (sized kind) ∙ e))
reads_shape [] BadLength h = absurd (none_some h.0 h.1)
  where
    none_some : (n : ℕ) → size_of 0 ≡ Some n → ⊥
    none_some n e = cc
reads_shape (kind ∷ rest) BadLength h = sym (bad_length_by (kind ∷ rest) (find (has_kind kind) decoders) h.0 (sym (sized kind) ∙ h.1) h.2)

known_once : (m n : Msg) → Known m ≡ Known n → m ≡ n
known_once m n e = cc

-- a payload means at most one message
pub one_message : (payload : List ℕ) (m n : Msg) → Means payload m → Means payload n → m ≡ n
one_message payload m n means means' = known_once m n (sym (shape_of_means payload m means) ∙ shape_of_means payload n means')

pub only : (payload : List ℕ) (shape : Shape) (m : Msg) → Reads payload shape → Means payload m → shape ≡ Known m
only payload shape m h means = reads_shape payload shape h ∙ shape_of_means payload m means

-- a message that a payload of bytes is read as has values that fit
pub fits : (payload : List ℕ) (shape : Shape) (m : Msg) → AreBytes payload → Reads payload shape → shape ≡ Known m → Fits m
fits payload (Known n) m b h is = fits_payload m payload b (subst (Means payload) (known_once n m is) h)
fits payload Unknown m b h is = cc
fits payload BadLength m b h is = cc

pub ruleset unique = (reads_shape, only, fits)
