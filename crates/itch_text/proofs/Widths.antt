-- The widths of fields.
use Rattle.std.proofs.Common.{◌≡◌, ◌≢◌, ◌&&◌, ℕ, zero, suc, ◌+◌, ◌-◌, ◌^◌, ◌<◌, ◌≤◌, List, [], ◌∷◌, length, map, get_or, IsTrue, ltb, false, refl, sym, subst, arith, zero-add, le_refl, pow-suc}
use Rattle.std.proofs.lemmas.Bool.Decides.{nat_tests}
use Rattle.std.proofs.lemmas.Bool.{and_parts}
use Rattle.std.specs.List.{list_all}
use Rattle.itch_layouts.specs.Layouts.{Form, Integer, Alpha, Field, Layout, fields}
use Rattle.itch_layouts.specs.Soundness.{is_width, is_sound_field, is_sound, is_word, tiles}

integer_width : (width : ℕ) → IsTrue (is_width Integer width) → width ≤ 8
integer_width width h = grind (arith, nat_tests)

alpha_width : (width : ℕ) → IsTrue (is_width Alpha width) → width ≤ 8
alpha_width width h = grind (arith, nat_tests)

pub width_within : (form : Form) (width : ℕ) → IsTrue (is_width form width) → width ≤ 8
width_within Integer width h = integer_width width h
width_within Alpha width h = alpha_width width h

eight : (width : ℕ) → IsTrue (is_width Integer width) → width ≢ 2 → width ≢ 4 → width ≢ 6 → width ≡ 8
eight width h a b c = grind (arith, nat_tests)

pub widest : (width : ℕ) → IsTrue (is_width Integer width) → width ≢ 2 → width ≢ 4 → width ≢ 6 → 2 ^ 64 ≡ 256 ^ width
widest width h a b c = rw (eight width h a b c) refl

pub ruleset greatest = (widest)

ap_le : (v w : ℕ) → v ≡ w → 256 ^ v ≤ 256 ^ w
ap_le v w e = subst (λ x. 256 ^ v ≤ 256 ^ x) e (le_refl (256 ^ v))

pub pow_more : (k w : ℕ) → 256 ^ w ≤ 256 ^ (k + w)
pow_more zero w = ap_le w (0 + w) (sym (zero-add w))
pow_more (suc k) w = let e : suc k + w ≡ suc (k + w) = omega arith in rw (e, pow-suc 256 (k + w)) (omega (arith, pow_more k w))

-- a number that fits at most eight bytes fits 64 bits
pub below_64 : (n width : ℕ) → width ≤ 8 → n < 256 ^ width → n < 2 ^ 64
below_64 n width h l =
    let whole : 8 - width + width ≡ 8 = omega arith in
    let most : 256 ^ width ≤ 256 ^ 8 = subst (λ k. 256 ^ width ≤ 256 ^ k) whole (pow_more (8 - width) width) in
    omega (arith, most)

pub not_lt : (m n : ℕ) → n ≤ m → ltb m n ≡ false
not_lt m n h = grind (arith, nat_tests)

pub layout_tiles : (layout : Layout) → IsTrue (is_sound layout) → IsTrue (tiles 1 (fields layout) layout.size)
layout_tiles layout h = (and_parts (is_word layout.mnemonic && list_all is_sound_field (fields layout)) (tiles 1 (fields layout) layout.size) h).1

pub sound_at : {X : Type 0} (f : X → Field) (xs : List X) (k : ℕ) (d : X) → IsTrue (list_all is_sound_field (map f xs)) → k < length xs → IsTrue (is_sound_field (f (get_or xs k d)))
sound_at f [] k d h l = absurd (omega arith)
sound_at f (x ∷ xs) zero d h l = (and_parts (is_sound_field (f x)) (list_all is_sound_field (map f xs)) h).0
sound_at f (x ∷ xs) (suc k) d h l = sound_at f xs k d (and_parts (is_sound_field (f x)) (list_all is_sound_field (map f xs)) h).1 (omega arith)
