-- A message is meant by exactly one payload.
use Rattle.std.proofs.Common.{◌≡◌, ℕ, lit<, ◌<◌, ◌∙◌, sym, ap, refl, List, [], ◌∷◌, ◌++◌, length, drop, append-nil, IsTrue, arith, subst}
use Rattle.itch_layouts.specs.Layouts.{Layout, fields, values_at, Value}
use Rattle.itch_layouts.specs.Means.{layout_of, values_of, IsOf, Means}
use Rattle.std.proofs.lemmas.List.{drop_all}
use Rattle.std.proofs.lemmas.List.Elements.{All-cons}
use Rattle.byte_strings.specs.Bytes.{AreBytes, IsByte}
use Rattle.itch_layouts.specs.Encoding.{encoding, payload_of, Fit, Fits}
use Rattle.itch_layouts.specs.Soundness.{tiles}
use Rattle.itch_layouts.specs.declared.message.Msg.{Msg}
use Rattle.itch_layouts.specs.declared.message.Msg.TheVariants.{System}
use Rattle.itch_layouts.proofs.EncodedFields.{tile_of, Tile, Tile-le, values_encoded, encoded_values, values_fit, length_encoding, AreBytes-encoding}

-- the fields of a message follow its type, up to its size
tiled : (m : Msg) → IsTrue (tiles 1 (fields (layout_of m)) (layout_of m).size)
tiled (System head m) = refl
tiled m = refl

tile : (m : Msg) → Tile 1 (fields (layout_of m)) (layout_of m).size
tile m = tile_of 1 (fields (layout_of m)) (layout_of m).size (tiled m)

-- the encoding of values that fit a layout's fields is of this layout and has these values
read_again : (layout : Layout) (vs : List Value) → IsTrue (tiles 1 (fields layout) layout.size) → Fit (fields layout) vs
    → IsOf layout (layout.kind ∷ encoding (fields layout) vs) × (vs ≡ values_at layout (layout.kind ∷ encoding (fields layout) vs))
read_again layout vs tiled h =
    let t = tile_of 1 (fields layout) layout.size tiled in
    let size : length (layout.kind ∷ encoding (fields layout) vs) ≡ layout.size = omega (arith, length_encoding 1 (fields layout) layout.size vs t h) in
    ((refl, size), sym (values_encoded (layout.kind ∷ []) (fields layout) layout.size vs t h))

pub means_payload : (m : Msg) → Fits m → Means (payload_of m) m
means_payload m h = read_again (layout_of m) (values_of m) (tiled m) h

kind_fits : (m : Msg) → (layout_of m).kind < 256
kind_fits (System head m) = lit< tt
kind_fits m = lit< tt

pub bytes_payload : (m : Msg) → Fits m → AreBytes (payload_of m)
bytes_payload m h = All-cons IsByte _ _ (kind_fits m) (AreBytes-encoding (fields (layout_of m)) (values_of m) h)

pub one_payload : (m : Msg) (payload : List ℕ) → AreBytes payload → Means payload m → payload ≡ payload_of m
one_payload m [] b h = absurd (omega (arith, h.0.1, Tile-le 1 (fields (layout_of m)) (layout_of m).size (tile m)))
one_payload m (kind ∷ body) b h =
    let end : drop (layout_of m).size (kind ∷ body) ≡ [] = drop_all (layout_of m).size (kind ∷ body) (omega (arith, h.0.1)) in
    let is : encoding (fields (layout_of m)) (values_of m) ≡ body =
    sym (append-nil (encoding (fields (layout_of m)) (values_of m)))
    ∙ ap (λ (rest : List ℕ). encoding (fields (layout_of m)) (values_of m) ++ rest) (sym end)
    ∙ ap (λ (vs : List Value). encoding (fields (layout_of m)) vs ++ drop (layout_of m).size (kind ∷ body)) h.1
    ∙ encoded_values (kind ∷ body) 1 (fields (layout_of m)) (layout_of m).size b (tile m) (omega (arith, h.0.1)) in
    let first : kind ≡ (layout_of m).kind = h.0.0 in
    ap (λ (k : ℕ). k ∷ body) first ∙ ap (λ (bs : List ℕ). (layout_of m).kind ∷ bs) (sym is)

-- a message that a payload of bytes means has values that fit
pub fits_payload : (m : Msg) (payload : List ℕ) → AreBytes payload → Means payload m → Fits m
fits_payload m payload b h =
    subst (Fit (fields (layout_of m))) (sym h.1) (values_fit payload 1 (fields (layout_of m)) (layout_of m).size b (tile m) (omega (arith, h.0.1)))

pub ruleset payloads = (bytes_payload, means_payload, one_payload, fits_payload)
