-- Fields of places, one place on.
use Rattle.std.proofs.Common.{◌≡◌, ℕ, ◌+◌, List, [], ◌∷◌, ◌++◌, map-id, sym, ap, ◌∙◌, arith, append_assoc, append-nil}
use Rattle.std.specs.List.{flat_map, range_with_len}
use Rattle.std.proofs.lemmas.List.Concat.{flat_map-append}
use Rattle.std.proofs.lemmas.List.FromFn.{map-range_with_len_more}

places_more : (f : ℕ → List ℕ) (n : ℕ) → flat_map f (range_with_len 0 (n + 1)) ≡ flat_map f (range_with_len 0 n) ++ f n
places_more f n =
    let seam : 0 + n ≡ n = omega arith in
    let places : range_with_len 0 (n + 1) ≡ range_with_len 0 n ++ n ∷ [] =
    sym (map-id _) ∙ map-range_with_len_more (λ (k : ℕ). k) 0 n n seam ∙ ap (λ (l : List ℕ). l ++ n ∷ []) (map-id _) in
    ap (flat_map f) places ∙ flat_map-append f (range_with_len 0 n) (n ∷ []) ∙ ap (λ (l : List ℕ). flat_map f (range_with_len 0 n) ++ l) (append-nil (f n))

-- a text that the fields of a place more extend
pub text_more : (f : ℕ → List ℕ) (n : ℕ) (old now then : List ℕ) → now ≡ old ++ flat_map f (range_with_len 0 n) → then ≡ now ++ f n → then ≡ old ++ flat_map f (range_with_len 0 (n + 1))
text_more f n old now then so_far more =
    more ∙ ap (λ (l : List ℕ). l ++ f n) so_far ∙ append_assoc old (flat_map f (range_with_len 0 n)) (f n) ∙ ap (λ (l : List ℕ). old ++ l) (sym (places_more f n))
