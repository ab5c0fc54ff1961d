-- What follows a prefix.
use Rattle.std.proofs.Common.{◌≡◌, inl, inr, ℕ, ◌+◌, ◌==◌, eqb, Bool, true, false, cond, List, [], ◌∷◌, ◌++◌, length, take, drop, Option, Some, None, option_map, MatchOption, refl, sym, ap, ◌∙◌, ne_eqb, eq-eqb, true≢false, eqb-true, codes}
use Rattle.std.proofs.lemmas.Bool.{and_parts, cases_eq, false≢true}
use Rattle.std.specs.Cmp.Lexicographic.{pointwise}
use Rattle.itch_layouts.specs.Layouts.{Field}
use Rattle.itch_text.specs.Parsing.{after_prefix, field_in, value_in, value_after_prefix}

no_prefix : (prefix text : List ℕ) → pointwise eqb (take (length prefix) text) prefix ≡ false → after_prefix prefix text ≡ None
no_prefix [] text h = absurd (true≢false h)
no_prefix (b ∷ prefix) [] h = refl
no_prefix (b ∷ prefix) (c ∷ text) h = elim (cases_eq b c) [
  | inl e ↦ rw (eq-eqb b c e) (no_prefix prefix text (sym (rw (eq-eqb c b (sym e)) refl) ∙ h))
  | inr n ↦ rw (ne_eqb b c n) refl
]

with_prefix : (prefix text : List ℕ) → pointwise eqb (take (length prefix) text) prefix ≡ true → after_prefix prefix text ≡ Some (drop (length prefix) text)
with_prefix [] text h = refl
with_prefix (b ∷ prefix) [] h = absurd (false≢true h)
with_prefix (b ∷ prefix) (c ∷ text) h =
    let p = and_parts (eqb c b) (pointwise eqb (take (length prefix) text) prefix) h in
    rw (eq-eqb b c (sym (eqb-true c b p.0))) (with_prefix prefix text p.1)

pub stripped_by : {X : Type 0} (f : X → List ℕ) (prefix text : List ℕ) (o : Option X) → MatchOption o (pointwise eqb (take (length prefix) text) prefix ≡ false) (λ x. (pointwise eqb (take (length prefix) text) prefix ≡ true) × (f x ≡ drop (length prefix) text) × (length (f x) + length prefix ≡ length text)) → option_map f o ≡ after_prefix prefix text
stripped_by f prefix text None h = sym (no_prefix prefix text h)
stripped_by f prefix text (Some x) h = ap Some h.1 ∙ sym (with_prefix prefix text h.0)

abbrev then_after : List ℕ → Option (List ℕ) → Option (List ℕ)
then_after b None = None
then_after b (Some text) = after_prefix b text

by_test : (b : List ℕ) (c : Bool) (o p : Option (List ℕ)) → o ≡ then_after b p → cond c o None ≡ then_after b (cond c p None)
by_test b true o p h = h
by_test b false o p h = refl

after_prefix-append : (a b text : List ℕ) → after_prefix (a ++ b) text ≡ then_after b (after_prefix a text)
after_prefix-append [] b text = refl
after_prefix-append (x ∷ a) b [] = refl
after_prefix-append (x ∷ a) b (y ∷ text) = by_test b (x == y) (after_prefix (a ++ b) text) (after_prefix a text) (after_prefix-append a b text)

pub no_name : (f : Field) (word : List ℕ) → after_prefix f.name word ≡ None → field_in f word ≡ None
unfolding field_in
no_name f word h = rw (after_prefix-append f.name (codes "=") word, h) refl

pub no_equals : (f : Field) (word text : List ℕ) → after_prefix f.name word ≡ Some text → after_prefix (codes "=") text ≡ None → field_in f word ≡ None
unfolding field_in
no_equals f word text h k = ap (value_after_prefix f) (after_prefix-append f.name (codes "=") word ∙ ap (then_after (codes "=")) h ∙ k)

pub has_value : (f : Field) (word text value : List ℕ) → after_prefix f.name word ≡ Some text → after_prefix (codes "=") text ≡ Some value → field_in f word ≡ value_in f.form f.width value
unfolding field_in
has_value f word text value h k = ap (value_after_prefix f) (after_prefix-append f.name (codes "=") word ∙ ap (then_after (codes "=")) h ∙ k)

pub ruleset naming = (no_name, no_equals, has_value)

pub ruleset stripped = (stripped_by)
