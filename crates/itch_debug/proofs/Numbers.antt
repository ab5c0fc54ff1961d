-- The number of a word, and where it is below a limit.
use Rattle.std.proofs.Common.{◌≡◌, inl, inr, ℕ, ◌^◌, ◌<◌, ◌≤◌, List, Option, Some, None, refl, sym, arith, lt-ltb}
use Rattle.std.specs.Prelude.{IfSome, IfNone, IsSome, ◌↔◌}
use Rattle.std.proofs.lemmas.Bool.{cases_lt}
use Rattle.itch_text.specs.Parsing.{number_in}
use Rattle.itch_text.specs.Values.{NumberText}
use Rattle.itch_text.proofs.FieldParsing.{number_sound, number_complete}
use Rattle.itch_text.proofs.Widths.{not_lt}
use Rattle.itch_debug.specs.Commands.{below, number_below}

pub number_found : (limit n : ℕ) (text : List ℕ) → NumberText text n → number_below limit text ≡ below limit (Some n)
number_found limit n text h = rw (number_complete text n h) refl

le_of_not : (m n : ℕ) → (m < n → ⊥) → n ≤ m
le_of_not m n h = elim (cases_lt m n) [ inl l ↦ absurd (h l) | inr l ↦ l ]

none_by : (limit : ℕ) (text : List ℕ) (o : Option ℕ) → limit ≤ 2 ^ 64 → number_in text ≡ o → ((n : ℕ) → NumberText text n → n < 2 ^ 64 → ⊥) → below limit o ≡ None
none_by limit text None w e h = refl
none_by limit text (Some n) w e h = rw (not_lt n limit (le_of_not n limit (λ l. h n (number_sound text n e) (omega arith)))) refl

pub no_number : (limit : ℕ) (text : List ℕ) → limit ≤ 2 ^ 64 → ((n : ℕ) → NumberText text n → n < 2 ^ 64 → ⊥) → number_below limit text ≡ None
no_number limit text w h = none_by limit text (number_in text) w refl h

pub number_is : (limit : ℕ) (text : List ℕ) (found : Option ℕ) → limit ≤ 2 ^ 64 → IfSome found (λ n. NumberText text n) → IfNone found ((n : ℕ) → NumberText text n → n < 2 ^ 64 → ⊥) → IfSome found (λ n. n < limit) → found ≡ number_below limit text
number_is limit text None w some none fits = sym (no_number limit text w none)
number_is limit text (Some n) w some none fits = rw (number_complete text n some, lt-ltb n limit fits) refl

pub kept_below : (limit n : ℕ) (kept : Option ℕ) → (IsSome kept ↔ (n < limit)) → IfSome kept (λ v. v ≡ n) → kept ≡ below limit (Some n)
kept_below limit n None fits is = rw (not_lt n limit (le_of_not n limit (λ l. let some = fits.1 l in cc))) refl
kept_below limit n (Some v) fits is = rw (lt-ltb n limit (fits.0 refl), is) refl

pub ruleset numbers = (number_found, no_number)
