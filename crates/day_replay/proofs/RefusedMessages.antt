-- The refused messages of a day: those of each batch, those of no stock, and all of them in order.
use Rattle.std.proofs.Common.{◌≡◌, ℕ, suc, ◌+◌, ◌<◌, List, [], ◌∷◌, ◌++◌, length, Bool, true, false, ◌&&◌, ◌||◌, cond, eqb, ltb, get_or, filter, map, None, refl, sym, ap, ap₂, subst, ◌∙◌, arith, inl, inr}
use Rattle.std.specs.List.{All, range_with_len, sum_by}
use Rattle.std.specs.List.Sorted.{IsNonDecreasing, IsNonDecreasingBy, IsPermutation, IsStrictlyIncreasing}
use Rattle.std.proofs.Math.Bool.{or-false}
use Rattle.std.proofs.lemmas.Bool.{cases_Bool, cases_eq, cases_lt, eq-eqb, le-ltb, lt-ltb, ne_eqb}
use Rattle.std.proofs.lemmas.List.Sorted.{All-permutation, IsPermutation-append_left, IsPermutation-cons, IsPermutation-map, IsPermutation-middle, IsPermutation-refl, IsPermutation-sym, IsPermutation-trans, sum_by-IsPermutation}
use Rattle.std.proofs.lemmas.List.Kept.{AllPairs-from_increasing, IsStrictlyIncreasing-filter}
use Rattle.std.proofs.lemmas.List.Sums.{sum_by-cons}
use Rattle.std.proofs.lemmas.Nat.{mod_below}
use Rattle.std.proofs.lemmas.List.{get_or-map, length-map, map-append}
use Rattle.itch_table.specs.declared.outcome.Outcome.TheVariants.{Applied}
use Rattle.itch_table.specs.declared.outcome.Part.{Part}
use Rattle.itch_table.specs.declared.outcome.Part.TheVariants.{Locate, Nowhere}
use Rattle.itch_table.proofs.DayLocates.{range_rises}
use Rattle.day_core.specs.Owners.{is_nowhere, is_own, own_of, owner, part_at}
use Rattle.day_replay.specs.declared.refusals.RefusedMessage.{RefusedMessage}
use Rattle.day_replay.specs.Summaries.{refused_among, refused_message, refused_of}
use Rattle.day_core.proofs.FilteredRanges.{kept_none}
use Rattle.day_replay.proofs.AppliedOrRefused.{numbers_back, refuses}

-- the refused messages of a worker, or of a batch, with their outcomes, by rising number
abbrev pub refused_by : List (List ℕ) → ℕ → ℕ → List RefusedMessage
refused_by day workers worker = refused_among day (own_of workers worker day)

-- ---- all of them, batch by batch

-- the numbers that pass one of two tests that exclude each other are those of the one and those of the other
either : (a b c : ℕ → Bool) → ((n : ℕ) → c n ≡ (a n || b n)) → ((n : ℕ) → a n ≡ true → b n ≡ false) → (xs : List ℕ)
    → IsPermutation (filter c xs) (filter a xs ++ filter b xs)
either a b c is apart [] = IsPermutation-refl []
either a b c is apart (x ∷ xs) =
    let rest = either a b c is apart xs in
    elim (cases_Bool (a x)) [
      | inl on ↦
          let off = apart x on in
          rw (is x, on, off) (IsPermutation-cons x _ _ rest)
      | inr not ↦ elim (cases_Bool (b x)) [
        | inl on ↦
            rw (is x, not, on) (IsPermutation-trans _ _ _ (IsPermutation-cons x _ _ rest) (IsPermutation-sym _ _ (IsPermutation-middle (filter a xs) x (filter b xs))))
        | inr off ↦ rw (is x, not, off) rest
      ]
    ]

-- a part of a stock whose worker is below some number
abbrev pub is_below : ℕ → ℕ → Part → Bool
is_below workers count (Locate locate) = ltb (owner workers locate) count
is_below workers count (Nowhere fixed) = false

-- both tests
kept_both : (p q : ℕ → Bool) (xs : List ℕ) → filter p (filter q xs) ≡ filter (λ n. q n && p n) xs
kept_both p q [] = refl
kept_both p q (x ∷ xs) = both (q x) (kept_both p q xs)
  where
    both : (b : Bool) → filter p (filter q xs) ≡ filter (λ n. q n && p n) xs
        → filter p (cond b (x ∷ filter q xs) (filter q xs)) ≡ cond (b && p x) (x ∷ filter (λ n. q n && p n) xs) (filter (λ n. q n && p n) xs)
    both true rest = ap (λ (l : List ℕ). cond (p x) (x ∷ l) l) rest
    both false rest = rest

module _ (day : List (List ℕ)) (workers : ℕ) where
  abbrev all : List ℕ
  all = range_with_len 1 (length day)

  -- the refused messages of the first workers
  abbrev pub refused_below : ℕ → List RefusedMessage
  refused_below count = map (refused_message day) (filter (λ n. is_below workers count (part_at day n) && refuses day n) all)

  own_refused : (worker : ℕ) → refused_by day workers worker ≡ map (refused_message day) (filter (λ n. is_own workers worker (part_at day n) && refuses day n) all)
  unfolding own_of
  own_refused worker = ap (map (refused_message day)) (kept_both (refuses day) (λ n. is_own workers worker (part_at day n)) all)

  more_of : (worker : ℕ) (p : Part) (b : Bool) → (is_below workers (worker + 1) p && b) ≡ ((is_below workers worker p && b) || (is_own workers worker p && b))
  more_of worker (Nowhere fixed) b = refl
  more_of worker (Locate locate) b =
      let o = owner workers locate in
      elim (cases_lt o worker) [
        | inl below ↦ rw (lt-ltb o (worker + 1) (omega (arith, below)), lt-ltb o worker below, ne_eqb o worker (λ e. omega (arith, e, below))) (sym (or-false b))
        | inr not ↦ elim (cases_eq o worker) [
          | inl same ↦ rw (lt-ltb o (worker + 1) (omega (arith, same)), le-ltb o worker (omega (arith, not)), eq-eqb o worker same) refl
          | inr differ ↦ rw (le-ltb o (worker + 1) (omega (arith, not, differ)), le-ltb o worker (omega (arith, not)), ne_eqb o worker differ) refl
        ]
      ]

  apart : (worker : ℕ) (p : Part) (b : Bool) → (is_below workers worker p && b) ≡ true → (is_own workers worker p && b) ≡ false
  apart worker (Nowhere fixed) b on = refl
  apart worker (Locate locate) b on =
      let o = owner workers locate in
      elim (cases_lt o worker) [
        | inl below ↦ rw (ne_eqb o worker (λ e. omega (arith, e, below))) refl
        | inr not ↦ let never : false ≡ true = rw (le-ltb o worker (omega (arith, not))) at on in let no : ⊥ = cc in absurd no
      ]

  -- and of one worker more
  pub below_more : (worker : ℕ) (pieces : List RefusedMessage) → IsPermutation (refused_below worker) pieces → IsPermutation (refused_below (worker + 1)) (pieces ++ refused_by day workers worker)
  below_more worker pieces before =
      let below = λ (n : ℕ). is_below workers worker (part_at day n) && refuses day n in
      let own = λ (n : ℕ). is_own workers worker (part_at day n) && refuses day n in
      let both = λ (n : ℕ). is_below workers (worker + 1) (part_at day n) && refuses day n in
      let one = either below own both (λ n. more_of worker (part_at day n) (refuses day n)) (λ n. apart worker (part_at day n) (refuses day n)) all in
      let mapped : IsPermutation (refused_below (worker + 1)) (refused_below worker ++ map (refused_message day) (filter own all)) =
      subst (IsPermutation (refused_below (worker + 1))) (map-append (refused_message day) (filter below all) (filter own all)) (IsPermutation-map (refused_message day) _ _ one)
      in
      IsPermutation-trans _ _ _ mapped
      (subst (λ (ps : List RefusedMessage). IsPermutation (refused_below worker ++ map (refused_message day) (filter own all)) (pieces ++ ps)) (sym (own_refused worker))
      (IsPermutation-append_left (map (refused_message day) (filter own all)) (refused_below worker) pieces before))

  -- before the first
  pub below_none : refused_below 0 ≡ []
  below_none = ap (map (refused_message day)) (kept_none _ all (λ n. none (part_at day n) (refuses day n)))
    where
      none : (p : Part) (b : Bool) → (is_below workers 0 p && b) ≡ false
      none (Locate locate) b = rw (le-ltb (owner workers locate) 0 (omega arith)) refl
      none (Nowhere fixed) b = refl

  -- after the last all are there but those of no stock
  abbrev pub fixed_refused : List RefusedMessage
  fixed_refused = map (refused_message day) (filter (λ n. is_nowhere (part_at day n) && refuses day n) all)

  pub below_all : 0 < workers → (pieces : List RefusedMessage) → IsPermutation (refused_below workers) pieces → IsPermutation (refused_of day) (pieces ++ fixed_refused)
  below_all some pieces before =
      let below = λ (n : ℕ). is_below workers workers (part_at day n) && refuses day n in
      let fixed = λ (n : ℕ). is_nowhere (part_at day n) && refuses day n in
      let one = either below fixed (refuses day) (λ n. whole (part_at day n) (refuses day n)) (λ n. other (part_at day n) (refuses day n)) all in
      let mapped : IsPermutation (refused_of day) (refused_below workers ++ fixed_refused) =
      subst (IsPermutation (refused_of day)) (map-append (refused_message day) (filter below all) (filter fixed all)) (IsPermutation-map (refused_message day) _ _ one)
      in
      IsPermutation-trans _ _ _ mapped (IsPermutation-append_left fixed_refused (refused_below workers) pieces before)
    where
      whole : (p : Part) (b : Bool) → b ≡ ((is_below workers workers p && b) || (is_nowhere p && b))
      whole (Locate locate) b = rw (lt-ltb (owner workers locate) workers (mod_below locate workers some)) (sym (or-false b))
      whole (Nowhere fixed) b = refl

      other : (p : Part) (b : Bool) → (is_below workers workers p && b) ≡ true → (is_nowhere p && b) ≡ false
      other (Locate locate) b on = refl
      other (Nowhere fixed) b on = let no : ⊥ = cc in absurd no

-- ---- put in order

abbrev counted : ℕ → List ℕ → ℕ
counted n xs = sum_by (λ m. cond (eqb n m) 1 0) xs

counted_first : (x : ℕ) (xs : List ℕ) → counted x (x ∷ xs) ≡ 1 + counted x xs
counted_first x xs = sum_by-cons (λ m. cond (eqb x m) 1 0) x xs ∙ rw (eq-eqb x x refl) refl

counted_none : (x : ℕ) (ys : List ℕ) → All (λ y. x < y) ys → counted x ys ≡ 0
counted_none x [] above = refl
counted_none x (y ∷ ys) above =
    let off : eqb x y ≡ false = ne_eqb x y (λ e. omega (arith, e, above 0 0 (omega arith))) in
    let first = ap {B = ℕ} (λ (b : Bool). cond b 1 0) off in
    omega (arith, first, sum_by-cons (λ m. cond (eqb x m) 1 0) y ys, counted_none x ys (λ k d lt. above (suc k) d (omega arith)))

-- two lists of numbers that don't fall, which have each number equally often, are one
same_numbers : (xs ys : List ℕ) → IsNonDecreasing xs → IsNonDecreasing ys → ((n : ℕ) → counted n xs ≡ counted n ys) → xs ≡ ys
same_numbers [] [] rise climb same = refl
same_numbers [] (y ∷ ys) rise climb same = let none : counted y [] ≡ 0 = refl in absurd (omega (arith, same y, none, counted_first y ys))
same_numbers (x ∷ xs) [] rise climb same = let none : counted x [] ≡ 0 = refl in absurd (omega (arith, same x, none, counted_first x xs))
same_numbers (x ∷ xs) (y ∷ ys) rise climb same = elim (cases_lt x y) [
  | inl below ↦
      let none = counted_none x (y ∷ ys) (λ k d lt. omega (arith, below, climb 0 k d (omega arith) lt)) in
      absurd (omega (arith, same x, none, counted_first x xs))
  | inr not ↦ elim (cases_lt y x) [
    | inl above ↦
        let none = counted_none y (x ∷ xs) (λ k d lt. omega (arith, above, rise 0 k d (omega arith) lt)) in
        absurd (omega (arith, same y, none, counted_first y ys))
    | inr neither ↦
        let head : x ≡ y = omega (arith, not, neither) in
        let rest = same_numbers xs ys (λ i j d le lt. rise (suc i) (suc j) d (omega arith) (omega arith)) (λ i j d le lt. climb (suc i) (suc j) d (omega arith) (omega arith))
        (λ n. omega (arith, same n, sum_by-cons (λ m. cond (eqb n m) 1 0) x xs, sum_by-cons (λ m. cond (eqb n m) 1 0) y ys, ap {B = ℕ} (λ (m : ℕ). cond (eqb n m) 1 0) head)) in
        ap₂ ◌∷◌ head rest
  ]
]

-- numbers that rise don't fall
no_fall : (xs : List ℕ) → IsStrictlyIncreasing xs → IsNonDecreasing xs
no_fall xs rises i j d le lt = elim (cases_eq i j) [
  | inl same ↦ omega (arith, ap (λ (k : ℕ). get_or xs k d) same)
  | inr differ ↦ omega (arith, AllPairs-from_increasing xs rises i j d (omega (arith, le, differ)) lt)
]

module _ (day : List (List ℕ)) where
  abbrev number_of : RefusedMessage → ℕ
  number_of p = p.message

  each_is : (numbers : List ℕ) → All (λ p. refused_message day p.message ≡ p) (map (refused_message day) numbers)
  each_is numbers i d lt = rw (get_or-map (refused_message day) numbers i 0 d (omega (arith, lt, length-map numbers (refused_message day)))) refl

  back : (pieces : List RefusedMessage) → All (λ p. refused_message day p.message ≡ p) pieces → map (refused_message day) (map number_of pieces) ≡ pieces
  back [] are = refl
  back (p ∷ ps) are = ap₂ ◌∷◌ (are 0 p (omega arith)) (back ps (λ k d lt. are (suc k) d (omega arith)))

  -- pieces in order are the day's, where they are these in any order
  pub in_order_are : (pieces : List RefusedMessage) → IsPermutation (refused_of day) pieces → IsNonDecreasingBy (λ p. p.message) pieces → pieces ≡ refused_of day
  in_order_are pieces has rise =
      let numbers = filter (refuses day) (range_with_len 1 (length day)) in
      let named = map number_of pieces in
      let none : RefusedMessage = record { message = 0; locate = None; outcome = Applied } in
      let moved : IsPermutation numbers named = subst (λ (ns : List ℕ). IsPermutation ns named) (numbers_back day numbers) (IsPermutation-map number_of (refused_of day) pieces has) in
      let same : numbers ≡ named = same_numbers numbers named
      (no_fall numbers (IsStrictlyIncreasing-filter (refuses day) _ (range_rises 1 (length day))))
      (λ i j d le lt.
      let long : j < length pieces = omega (arith, lt, length-map pieces number_of) in
      omega (arith, get_or-map number_of pieces i none d (omega (arith, le, long)), get_or-map number_of pieces j none d long, rise i j none le long))
      (λ n. sym (sum_by-IsPermutation (λ m. cond (eqb n m) 1 0) numbers named moved))
      in
      sym (back pieces (All-permutation (λ p. refused_message day p.message ≡ p) (refused_of day) pieces has (each_is numbers))) ∙ sym (ap (map (refused_message day)) same)
