-- Spaces at the right end of a field.
use Rattle.std.proofs.Common.{◌≡◌, List, ℕ, [], ◌∷◌, ◌++◌, refl, true, false, ◌∙◌}
use Rattle.std.specs.List.{list_all}
use Rattle.std.specs.Prelude.{◌&&◌, Bool}
use Rattle.std.proofs.lemmas.List.Folds.{list_all-append}
use Rattle.text_fields.specs.Quoted.{unpadded, is_space}

and-true : (a : Bool) → (a && true) ≡ a
and-true true = refl
and-true false = refl

and-false : (a : Bool) → (a && false) ≡ false
and-false true = refl
and-false false = refl

all-space : (prefix : List ℕ) → list_all is_space (prefix ++ 32 ∷ []) ≡ list_all is_space prefix
all-space prefix = list_all-append is_space prefix (32 ∷ []) ∙ and-true (list_all is_space prefix)

all-last : (prefix : List ℕ) (byte : ℕ) → is_space byte ≡ false → list_all is_space (prefix ++ byte ∷ []) ≡ false
all-last prefix byte h = list_all-append is_space prefix (byte ∷ []) ∙ rw h (and-false (list_all is_space prefix))

-- a space at the end is dropped
pub unpadded-space : (prefix : List ℕ) → unpadded (prefix ++ 32 ∷ []) ≡ unpadded prefix
unpadded-space [] = refl
unpadded-space (byte ∷ rest) = rw (all-space rest, unpadded-space rest) refl

-- another byte at the end ends the field
pub unpadded-last : (prefix : List ℕ) (byte : ℕ) → is_space byte ≡ false → unpadded (prefix ++ byte ∷ []) ≡ prefix ++ byte ∷ []
unpadded-last [] byte h = rw h refl
unpadded-last (first ∷ rest) byte h = rw (all-last rest byte h, and-false (is_space first), unpadded-last rest byte h) refl

pub ruleset padding_lemmas = (unpadded-space, unpadded-last)
