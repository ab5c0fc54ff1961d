-- What was there is a prefix of what it was extended to.
use Rattle.std.proofs.Common.{◌≡◌, ℕ, List, [], ◌∷◌, ◌++◌, length, take, drop, refl, ap, sym, ◌∙◌, append_assoc}
use Rattle.std.proofs.lemmas.List.{take-append-drop}
use Rattle.std.proofs.Math.Seq.{take-append_seam}
use Rattle.text_fields.specs.Prefixes.{IsPrefix}

take_all : (xs : List ℕ) → take (length xs) xs ≡ xs
take_all [] = refl
take_all (x ∷ xs) = ap (λ ys. x ∷ ys) (take_all xs)

pub prefix_same : (old new : List ℕ) → new ≡ old → IsPrefix old new
prefix_same old new same = ap (take (length old)) same ∙ take_all old

pub prefix_append : (old more new : List ℕ) → new ≡ old ++ more → IsPrefix old new
prefix_append old more new same = ap (take (length old)) same ∙ take-append_seam old more

pub prefix_further : (old x y mid new : List ℕ) → mid ≡ (old ++ x) ++ y → IsPrefix mid new → IsPrefix old new
prefix_further old x y mid new same prefix =
    let rest = drop (length mid) new in
    let whole : new ≡ old ++ (x ++ (y ++ rest)) =
    sym (take-append-drop (length mid) new) ∙ ap (λ xs. xs ++ rest) (prefix ∙ same) ∙ append_assoc (old ++ x) y rest ∙ append_assoc old x (y ++ rest) in
    prefix_append old (x ++ (y ++ rest)) new whole

pub ruleset prefixes = (prefix_same, prefix_append, prefix_further)
