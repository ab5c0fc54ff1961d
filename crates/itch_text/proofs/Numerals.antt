-- Parsing the digits of a number, and its fit.
use Rattle.std.proofs.Common.{◌≡◌, inl, inr, ℕ, suc, ◌+◌, ◌*◌, ◌^◌, ◌<◌, ◌≤◌, Bool, true, false, List, [], ◌∷◌, length, drop, get_or, lt-ltb, leb, leb-true, leb-false, Option, Some, None, option_map, refl, sym, ap, ◌∙◌, arith, drop-cons}
use Rattle.std.specs.Str.Parse.{digits_value_after}
use Rattle.std.specs.Char.{digit_value}
use Rattle.std.specs.Bool.{then_some}
use Rattle.std.proofs.lemmas.Bool.{cases_lt}
use Rattle.itch_layouts.specs.Layouts.{Number, Integer}
use Rattle.itch_layouts.specs.Soundness.{is_width}
use Rattle.std.specs.Prelude.{IsTrue}
use Rattle.itch_text.specs.Values.{NumberText}
use Rattle.itch_text.specs.Parsing.{fitting, number_in}
use Rattle.itch_text.proofs.FieldParsing.{number_sound, number_complete}
use Rattle.itch_text.proofs.Widths.{below_64, not_lt, width_within}

-- a numeral is at least what stands before it
grows : (n : ℕ) (ds : List ℕ) → n ≤ digits_value_after 10 n ds
grows n [] = omega arith
grows n (c ∷ cs) = omega (arith, grows (n * 10 + digit_value c) cs)

pub grows_at : (n i : ℕ) (ds : List ℕ) → i < length ds → n * 10 + digit_value (get_or ds i 0) ≤ digits_value_after 10 n (drop i ds)
grows_at n i ds h = rw (drop-cons ds i 0) (grows (n * 10 + digit_value (get_or ds i 0)) (drop (suc i) ds))

le_of_not : (m n : ℕ) → (m < n → ⊥) → n ≤ m
le_of_not m n h = elim (cases_lt m n) [ inl l ↦ absurd (h l) | inr l ↦ l ]

number_fits : (text : List ℕ) (n width g : ℕ) → NumberText text n → g + 1 ≡ 256 ^ width → n ≤ g → fitting width (number_in text) ≡ Some (Number n)
number_fits text n width g h e l = rw (number_complete text n h, lt-ltb n (256 ^ width) (omega (arith, e))) refl

number_exceeds : (text : List ℕ) (n width g : ℕ) → NumberText text n → g + 1 ≡ 256 ^ width → g < n → fitting width (number_in text) ≡ None
number_exceeds text n width g h e l = rw (number_complete text n h, not_lt n (256 ^ width) (omega (arith, e))) refl

no_number_by : (text : List ℕ) (width : ℕ) (o : Option ℕ) → width ≤ 8 → number_in text ≡ o → ((n : ℕ) → NumberText text n → n < 2 ^ 64 → ⊥) → fitting width o ≡ None
no_number_by text width None w e h = refl
no_number_by text width (Some n) w e h = rw (not_lt n (256 ^ width) (le_of_not n (256 ^ width) (λ l. h n (number_sound text n e) (below_64 n width w l)))) refl

pub no_number : (text : List ℕ) (width : ℕ) → IsTrue (is_width Integer width) → ((n : ℕ) → NumberText text n → n < 2 ^ 64 → ⊥) → fitting width (number_in text) ≡ None
no_number text width w h = no_number_by text width (number_in text) (width_within Integer width w) refl h

kept_by : (text : List ℕ) (n width g : ℕ) (b : Bool) → NumberText text n → g + 1 ≡ 256 ^ width → leb n g ≡ b → option_map Number (then_some b n) ≡ fitting width (number_in text)
kept_by text n width g true h e l = sym (number_fits text n width g h e (leb-true n g l))
kept_by text n width g false h e l = sym (number_exceeds text n width g h e (leb-false n g l))

-- a number is kept where it is no greater than the greatest
pub number_kept : (text : List ℕ) (n width g : ℕ) (o : Option ℕ) → NumberText text n → g + 1 ≡ 256 ^ width → o ≡ then_some (leb n g) n → option_map Number o ≡ fitting width (number_in text)
number_kept text n width g o h e k = ap (option_map Number) k ∙ kept_by text n width g (leb n g) h e refl

pub ruleset numbers = (no_number, number_kept)
