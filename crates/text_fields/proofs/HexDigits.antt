-- Bytes in hexadecimal digits, one after another.
use Rattle.std.proofs.Common.{◌≡◌, ℕ, ◌+◌, ◌<◌, List, [], ◌∷◌, ◌++◌, length, take, get_or, append-nil, append_assoc, refl, ap, sym, ◌∙◌}
use Rattle.std.proofs.lemmas.List.{take_more}
use Rattle.hex.specs.Hex.{encode_with, encode_lower}

pub encode-append : (table xs ys : List ℕ) → encode_with table (xs ++ ys) ≡ encode_with table xs ++ encode_with table ys
unfolding encode_with
encode-append table [] ys = refl
encode-append table (x ∷ xs) ys = rw (encode-append table xs ys) refl

-- no byte yet
pub encode_none : (text : List ℕ) → text ≡ text ++ encode_lower []
unfolding encode_with
encode_none text = sym (append-nil text)

-- one byte more
encode_more : (text now bs : List ℕ) (k : ℕ) → k < length bs → now ≡ text ++ encode_lower (take k bs) → now ++ encode_lower (get_or bs k 0 ∷ []) ≡ text ++ encode_lower (take (k + 1) bs)
encode_more text now bs k h e =
    let byte : List ℕ = encode_lower (get_or bs k 0 ∷ []) in
    ap (λ (xs : List ℕ). xs ++ byte) e ∙ append_assoc text (encode_lower (take k bs)) byte
    ∙ ap (λ (xs : List ℕ). text ++ xs) (sym (ap encode_lower (take_more bs k 0 h) ∙ encode-append _ (take k bs) (get_or bs k 0 ∷ [])))

pub put_more : (text now new digits bs : List ℕ) (k : ℕ) → k < length bs → now ≡ text ++ encode_lower (take k bs) → digits ≡ encode_lower (get_or bs k 0 ∷ []) → new ≡ now ++ digits → new ≡ text ++ encode_lower (take (k + 1) bs)
put_more text now new digits bs k h e d n = n ∙ ap (λ (xs : List ℕ). now ++ xs) d ∙ encode_more text now bs k h e
