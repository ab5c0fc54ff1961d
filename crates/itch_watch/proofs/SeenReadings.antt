-- What a screen has seen, with a later reading after it.
use Rattle.std.proofs.Common.{◌≡◌, ℕ, zero, suc, ◌+◌, ◌<◌, List, [], ◌∷◌, ◌++◌, length, get_or, Bool, true, filter, refl, ap, sym, subst, ◌∙◌, arith, inl, inr}
use Rattle.std.specs.Prelude.{nat_lt}
use Rattle.std.proofs.lemmas.Bool.{cases_Bool, lt-ltb, ltb-true}
use Rattle.std.proofs.lemmas.Grind.{common_steps}
use Rattle.std.proofs.lemmas.List.{map-append}
use Rattle.std.proofs.lemmas.List.Elements.{All-filter, All-push}
use Rattle.std.proofs.lemmas.List.Kept.{IsStrictlyIncreasing-filter}
use Rattle.top_cell.specs.Boards.{Place}
use Rattle.top_cell.specs.declared.reading.Reading.{Reading}
use Rattle.day_core.specs.Owners.{last_message, last_or}
use Rattle.day_core.proofs.Progress.{last_push}
use Rattle.itch_watch.specs.Watching.{AreSeen, AreSeenToTheEnd, IsReading, numbers}
use Rattle.itch_watch.proofs.RisingNumbers.{rising_more}

-- whether a reading is of an earlier message
abbrev pub is_before : ℕ → Reading → Bool
is_before n r = nat_lt r.message n

numbers_before : (n : ℕ) (rs : List Reading) → numbers (filter (is_before n) rs) ≡ filter (λ k. nat_lt k n) (numbers rs)
numbers_before n [] = refl
numbers_before n (r ∷ rest) = grind (arith, common_steps, numbers_before n rest)

last_before : (n d : ℕ) (xs : List ℕ) → d < n → last_or d (filter (λ k. nat_lt k n) xs) < n
last_before n d [] less = less
last_before n d (x ∷ xs) less = elim (cases_Bool (nat_lt x n)) [
  | inl on ↦ rw on (last_before n x xs (ltb-true x n on))
  | inr off ↦ rw off (last_before n d xs less)
]

-- the numbers after another reading
numbers_more : (rs : List Reading) (r : Reading) → numbers (rs ++ r ∷ []) ≡ numbers rs ++ r.message ∷ []
numbers_more rs r = map-append (λ r. r.message) rs (r ∷ [])

-- the last of some numbers is that of the last reading
pub last_at : (before n : ℕ) (rs : List Reading) (d : Reading) → length rs ≡ n + 1 → (get_or rs n d).message ≡ last_or before (numbers rs)
last_at before n [] d is = absurd (omega (arith, is))
last_at before zero (r ∷ []) d is = refl
last_at before zero (r ∷ next ∷ rs) d is = absurd (omega (arith, is))
last_at before (suc n) (r ∷ []) d is = absurd (omega (arith, is))
last_at before (suc n) (r ∷ next ∷ rs) d is = last_at r.message n (next ∷ rs) d (omega (arith, is))

pub last_is : (rs : List Reading) (r : Reading) → last_or 0 (numbers (rs ++ r ∷ [])) ≡ r.message
last_is rs r = ap (last_or 0) (numbers_more rs r) ∙ last_push 0 (numbers rs) r.message

pub seen_more : (day : List (List ℕ)) (locate : ℕ) (rs : List Reading) (r : Reading) → AreSeen day locate rs
    → IsReading day locate r → last_or 0 (numbers rs) < r.message → AreSeen day locate (rs ++ r ∷ [])
seen_more day locate rs r seen reading later = record {
  each = All-push (IsReading day locate) rs r seen.each reading;
  rising = rw (numbers_more rs r) (rising_more 0 (numbers rs) r.message seen.rising later);
}

seen_before : (day : List (List ℕ)) (locate n : ℕ) (rs : List Reading) → 0 < n → AreSeen day locate rs → AreSeen day locate (filter (is_before n) rs)
seen_before day locate n rs some seen =
    let kept = IsStrictlyIncreasing-filter (λ k. nat_lt k n) (0 ∷ numbers rs) seen.rising in
    let on : nat_lt 0 n ≡ true = lt-ltb 0 n some in
    record {
      each = All-filter (is_before n) (IsReading day locate) rs seen.each;
      rising = rw (numbers_before n rs) (rw on at kept);
    }

-- the readings before the last message, and the last one
pub seen_to_the_end : (day : List (List ℕ)) (locate : ℕ) (rs : List Reading) (r : Reading) → 0 < r.message → AreSeen day locate rs
    → IsReading day locate r → r.message ≡ last_message day locate
    → AreSeenToTheEnd day locate (filter (is_before r.message) rs ++ r ∷ [])
seen_to_the_end day locate rs r some seen reading is = record {
  seen = seen_more day locate (filter (is_before r.message) rs) r (seen_before day locate r.message rs some seen) reading
      (rw (numbers_before r.message rs) (last_before r.message 0 (numbers rs) some));
  last = last_is (filter (is_before r.message) rs) r ∙ is;
}

-- the same of an equal cell and equal readings
pub seen_at : (p q : Place) (rs ss : List Reading) → q ≡ p → ss ≡ rs → AreSeen p.day p.locate rs → AreSeen q.day q.locate ss
seen_at p q rs ss place same seen =
    subst (λ (l : List Reading). AreSeen q.day q.locate l) (sym same) (subst (λ (o : Place). AreSeen o.day o.locate rs) (sym place) seen)
