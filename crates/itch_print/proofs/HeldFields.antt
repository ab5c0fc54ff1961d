-- A payload of the size of its layout has the bytes of all the fields.
use Rattle.std.proofs.Common.{◌≡◌, ℕ, ◌+◌, ◌<◌, ◌≤◌, ◌&&◌, true, List, [], ◌∷◌, length, map, get_or, slice_index, None, IsTrue, refl, sym, subst, arith}
use Rattle.std.proofs.lemmas.Bool.{and_parts}
use Rattle.std.proofs.lemmas.List.{get_or-map, length-map}
use Rattle.std.proofs.lemmas.List.Elements.{All-from_recursion, All-get_or}
use Rattle.std.specs.List.{list_all, All, AllByRecursion as Each}
use Rattle.itch_layouts.specs.Layouts.{Layout, Field, layout_of_kind, fields, head_fields}
use Rattle.itch_layouts.specs.Soundness.{is_word, is_sound, is_sound_field, tiles}
use Rattle.itch_layouts.specs.StaticFields.{as_field}
use Rattle.itch_layouts.specs.declared.field.Field.{Field as StaticField}
use Rattle.itch_layouts.proofs.EncodedFields.{Tile, Tile-le, tile_of}
use Rattle.itch_print.specs.Printing.{HasField}

-- a payload of no bytes has no layout
pub no_layout : (payload : List ℕ) → length payload ≤ 0 → layout_of_kind (slice_index payload 0) ≡ None
unfolding layout_of_kind
no_layout [] h = refl
no_layout (b ∷ bs) h = absurd (omega arith)

each_has : (payload : List ℕ) (from : ℕ) (fs : List Field) (to : ℕ) → Tile from fs to → to ≤ length payload → list_all is_sound_field fs ≡ true → Each (HasField payload) fs
each_has payload from [] to t l s = tt
each_has payload from (f ∷ fs) to t l s =
    let p = and_parts (is_sound_field f) (list_all is_sound_field fs) s in
    ((omega (arith, t.0, Tile-le (from + f.width) fs to t.1), p.0), each_has payload (from + f.width) fs to t.1 l p.1)

-- a payload of the size of a layout has its fields
has_fields : (payload : List ℕ) (layout : Layout) → IsTrue (is_sound layout) → length payload ≡ layout.size → Each (HasField payload) (fields layout)
has_fields payload layout sound size =
    let p = and_parts (is_word layout.mnemonic && list_all is_sound_field (fields layout)) (tiles 1 (fields layout) layout.size) sound in
    let q = and_parts (is_word layout.mnemonic) (list_all is_sound_field (fields layout)) p.0 in
    each_has payload 1 (fields layout) layout.size (tile_of 1 (fields layout) layout.size p.1) (omega arith) q.1

pub has_head : (payload : List ℕ) (layout : Layout) (found : List StaticField) → IsTrue (is_sound layout) → length payload ≡ layout.size → map as_field found ≡ head_fields → All (HasField payload) (map as_field found)
has_head payload layout found sound size is =
    let all = has_fields payload layout sound size in
    subst (All (HasField payload)) (sym is) (All-from_recursion (HasField payload) head_fields (all.0, (all.1.0, (all.1.1.0, tt))))

pub has_body : (payload : List ℕ) (layout : Layout) → IsTrue (is_sound layout) → length payload ≡ layout.size → All (HasField payload) layout.body
has_body payload layout sound size = All-from_recursion (HasField payload) layout.body (has_fields payload layout sound size).1.1.1

pub has_field : (payload : List ℕ) (found : List StaticField) (k : ℕ) (d : StaticField) → All (HasField payload) (map as_field found) → k < length found → HasField payload (as_field (get_or found k d))
has_field payload found k d all h =
    let within : k < length (map as_field found) = simp length-map h in
    subst (HasField payload) (get_or-map as_field found k d (as_field d) h) (All-get_or (HasField payload) (map as_field found) k (as_field d) within all)
