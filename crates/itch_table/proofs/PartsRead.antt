-- The part of a payload by its type, its length and its locate code.
use Rattle.std.proofs.Common.{◌≡◌, ◌≢◌, ◌∙◌, ◌==◌, ◌<◌, ℕ, ltb, List, [], ◌∷◌, length, map, get_or, Option, Some, None, Bool, true, false, cond, inl, inr, option_map, sym, ap, refl, arith}
use Rattle.std.proofs.lemmas.Bool.{eq-eqb, eqb-true, ltb-true}
use Rattle.std.specs.Int.{w16, from_be_bytes}
use Rattle.std.specs.List.{find}
use Rattle.itch_layouts.specs.Layouts.{bytes_at, number_at, size_of, values_at}
use Rattle.itch_layouts.specs.Shapes.{Decoder, decoders, has_kind, shape_by, shape_of}
use Rattle.itch_layouts.specs.declared.shape.Shape.TheVariants.{Known, Unknown, BadLength}
use Rattle.itch_layouts.proofs.Finding.{same_on_found, found_passes}
use Rattle.itch_layouts.proofs.Numbers.{number_at_16}
use Rattle.itch_layouts.proofs.Uniqueness.{reads_shape, sized}
use Rattle.itch_table.specs.Parts.{is_of_no_stock, part, part_of_message, part_of_shape}
use Rattle.itch_table.specs.declared.outcome.Fault.TheVariants.{WrongLength}
use Rattle.itch_table.specs.declared.outcome.Outcome.TheVariants.{Applied, Passed, Refused}
use Rattle.itch_table.specs.declared.outcome.Part.{Part}
use Rattle.itch_table.specs.declared.outcome.Part.TheVariants.{Locate, Nowhere}

pub empty_part : (payload : List ℕ) → length payload ≡ 0 → part payload ≡ Nowhere Passed
empty_part payload none = ap part_of_shape (sym (reads_shape payload Unknown (inl none)))

pub unknown_part : (payload : List ℕ) → size_of (get_or payload 0 0) ≡ None → part payload ≡ Nowhere Passed
unknown_part payload none = ap part_of_shape (sym (reads_shape payload Unknown (inr none)))

pub refused_part : (payload : List ℕ) (size : ℕ) → size_of (get_or payload 0 0) ≡ Some size → length payload ≢ size
    → part payload ≡ Nowhere (Refused WrongLength)
refused_part payload size is other = ap part_of_shape (sym (reads_shape payload BadLength (size, is, other)))

-- ---- a message of a decoder

abbrev of_message : Decoder → List ℕ → Part
of_message d payload = part_of_message (d.message (values_at d.layout payload))

abbrev of_kind : ℕ → List ℕ → Part
of_kind kind payload = cond (is_of_no_stock kind) (Nowhere Applied) (Locate (number_at 1 2 payload))

abbrev of_own_kind : Decoder → List ℕ → Part
of_own_kind d payload = of_kind d.layout.kind payload

of_kinds : map of_message decoders ≡ map of_own_kind decoders
of_kinds = refl

long_layouts : map (λ (d : Decoder). ltb 2 d.layout.size) decoders ≡ map (λ (d : Decoder). true) decoders
long_layouts = refl

-- the decoder of a type that has a size
record Sized (kind size : ℕ) : Type 0 where
  decoder : Decoder
  found : find (has_kind kind) decoders ≡ Some decoder
  same : decoder.layout.size ≡ size

decoder_of : (kind size : ℕ) → size_of kind ≡ Some size → Sized kind size
decoder_of kind size is = among (find (has_kind kind) decoders) refl (sym (sized kind) ∙ is)
  where
    among : (o : Option Decoder) → find (has_kind kind) decoders ≡ o → option_map (λ (d : Decoder). d.layout.size) o ≡ Some size → Sized kind size
    among None none e = let never : ⊥ = cc in absurd never
    among (Some d) found e = record { decoder = d; found = found; same = cc }

pub long_size : (payload : List ℕ) (size : ℕ) → size_of (get_or payload 0 0) ≡ Some size → length payload ≡ size → 2 < length payload
long_size payload size is same =
    let d : Sized (get_or payload 0 0) size = decoder_of (get_or payload 0 0) size is in
    let long : 2 < d.decoder.layout.size = ltb-true 2 d.decoder.layout.size
    (same_on_found (λ (d : Decoder). ltb 2 d.layout.size) (λ (d : Decoder). true) (has_kind (get_or payload 0 0)) decoders d.decoder long_layouts d.found) in
    omega (arith, d.same)

part_of_kind : (kind : ℕ) (rest : List ℕ) (size : ℕ) → size_of kind ≡ Some size → length (kind ∷ rest) ≡ size
    → part (kind ∷ rest) ≡ of_kind kind (kind ∷ rest)
unfolding shape_of
part_of_kind kind rest size is same =
    let d : Sized kind size = decoder_of kind size is in
    let message : List ℕ → Part = of_message d.decoder in
    let long : (length (kind ∷ rest) == d.decoder.layout.size) ≡ true = eq-eqb _ _ (same ∙ sym d.same) in
    ap (λ (o : Option Decoder). part_of_shape (shape_by (kind ∷ rest) o)) d.found
    ∙ ap (λ (b : Bool). part_of_shape (cond b (Known (d.decoder.message (values_at d.decoder.layout (kind ∷ rest)))) BadLength)) long
    ∙ ap (λ (f : List ℕ → Part). f (kind ∷ rest)) (same_on_found of_message of_own_kind (has_kind kind) decoders d.decoder of_kinds d.found)
    ∙ ap (λ (k : ℕ). of_kind k (kind ∷ rest)) (eqb-true d.decoder.layout.kind kind (found_passes (has_kind kind) decoders d.decoder d.found))

known_part : (payload : List ℕ) (size : ℕ) → size_of (get_or payload 0 0) ≡ Some size → length payload ≡ size
    → part payload ≡ of_kind (get_or payload 0 0) payload
known_part [] size is same = let long : 2 < 0 = long_size [] size is same in absurd (omega arith)
known_part (kind ∷ rest) size is same = part_of_kind kind rest size is same

-- the locate code, read as std reads numbers
read_locate : (payload : List ℕ) → 2 < length payload → from_be_bytes w16 (get_or payload 1 0 ∷ get_or payload 2 0 ∷ []) ≡ number_at 1 2 payload
unfolding bytes_at
read_locate [] h = absurd (omega arith)
read_locate (a ∷ []) h = absurd (omega arith)
read_locate (a ∷ b ∷ []) h = absurd (omega arith)
read_locate (a ∷ b ∷ c ∷ rest) h = number_at_16 1 (a ∷ b ∷ c ∷ rest) (omega arith)

pub market_part : (payload : List ℕ) (size : ℕ) → size_of (get_or payload 0 0) ≡ Some size → length payload ≡ size
    → is_of_no_stock (get_or payload 0 0) ≡ true → part payload ≡ Nowhere Applied
market_part payload size is same market = known_part payload size is same ∙ ap (λ (b : Bool). cond b (Nowhere Applied) (Locate (number_at 1 2 payload))) market

pub stock_part : (payload : List ℕ) (size : ℕ) → size_of (get_or payload 0 0) ≡ Some size → length payload ≡ size
    → is_of_no_stock (get_or payload 0 0) ≡ false → part payload ≡ Locate (from_be_bytes w16 (get_or payload 1 0 ∷ get_or payload 2 0 ∷ []))
stock_part payload size is same stock =
    known_part payload size is same
    ∙ ap (λ (b : Bool). cond b (Nowhere Applied) (Locate (number_at 1 2 payload))) stock
    ∙ ap Locate (sym (read_locate payload (long_size payload size is same)))

pub ruleset reading = (empty_part, unknown_part, refused_part, market_part, stock_part, long_size)
