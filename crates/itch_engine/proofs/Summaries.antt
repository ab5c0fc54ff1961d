-- The lines and the counts of a day, by its refused messages.
use Rattle.std.proofs.Common.{◌≡◌, ℕ, zero, suc, ◌+◌, List, [], ◌∷◌, ◌++◌, length, Bool, false, cond, filter, map, refl, sym, ap, ◌∙◌, arith, inl, inr}
use Rattle.std.specs.List.{count_by, flat_map, range_with_len}
use Rattle.std.proofs.lemmas.Bool.{cases_Bool}
use Rattle.std.proofs.lemmas.List.{length-map}
use Rattle.std.proofs.lemmas.List.Sums.{length-filter, sum_by-cons}
use Rattle.itch_table.specs.declared.outcome.Outcome.{Outcome}
use Rattle.itch_table.specs.declared.outcome.Outcome.TheVariants.{Applied, Passed, Refused}
use Rattle.itch_table.specs.After.{outcome, outcomes}
use Rattle.day_replay.specs.declared.refusals.RefusedMessage.{RefusedMessage}
use Rattle.day_replay.specs.Summaries.{is_applied, is_passed, is_refused, refused_message, refused_of}
use Rattle.day_core.proofs.FilteredRanges.{filter-map}
use Rattle.itch_engine.specs.Report.{refused_line, refused_lines}

-- ---- the lines

abbrev pub line_of : RefusedMessage → List ℕ
line_of r = refused_line r.message r.outcome

no_line : (message : ℕ) (o : Outcome) → is_refused o ≡ false → refused_line message o ≡ []
no_line message Applied off = refl
no_line message Passed off = refl
no_line message (Refused fault) off = let never : ⊥ = cc in absurd never

lines_from : (day : List (List ℕ)) (first count : ℕ)
    → flat_map line_of (map (refused_message day) (filter (λ n. is_refused (outcome day n)) (range_with_len first count)))
    ≡ refused_lines first (map (outcome day) (range_with_len first count))
lines_from day first zero = refl
lines_from day first (suc count) =
    let rest = lines_from day (first + 1) count in
    elim (cases_Bool (is_refused (outcome day first))) [
      | inl on ↦ rw on (ap (λ (l : List ℕ). refused_line first (outcome day first) ++ l) rest)
      | inr off ↦ rw (off, no_line first (outcome day first) off) rest
    ]

pub lines_are : (day : List (List ℕ)) → flat_map line_of (refused_of day) ≡ refused_lines 1 (outcomes day)
lines_are day = lines_from day 1 (length day)

-- ---- the counts

module _ (day : List (List ℕ)) where
  abbrev numbers : List ℕ
  numbers = range_with_len 1 (length day)

  -- how many outcomes pass a test
  counted : (q : Outcome → Bool) → count_by q (outcomes day) ≡ length (filter (λ n. q (outcome day n)) numbers)
  counted q = sym (length-filter q (outcomes day)) ∙ ap length (filter-map q (outcome day) numbers) ∙ length-map _ (outcome day)

  pub refused_are : length (refused_of day) ≡ count_by is_refused (outcomes day)
  refused_are = length-map _ (refused_message day) ∙ sym (counted is_refused)

-- each message is applied, passed over or refused
pub all_counted : (found : List Outcome) → count_by is_applied found + count_by is_passed found + count_by is_refused found ≡ length found
all_counted [] = refl
all_counted (o ∷ os) =
    omega (arith, one o, all_counted os, sum_by-cons (λ x. cond (is_applied x) 1 0) o os, sum_by-cons (λ x. cond (is_passed x) 1 0) o os, sum_by-cons (λ x. cond (is_refused x) 1 0) o os)
  where
    one : (o : Outcome) → cond {A = ℕ} (is_applied o) 1 0 + cond {A = ℕ} (is_passed o) 1 0 + cond {A = ℕ} (is_refused o) 1 0 ≡ 1
    one Applied = refl
    one Passed = refl
    one (Refused fault) = refl
