-- The references that a stock's orders have had, in their two parts.
use Rattle.std.proofs.Common.{◌≡◌, ◌≢◌, ℕ, ◌+◌, ◌-◌, ◌<◌, ◌≤◌, ◌==◌, ◌||◌, not, List, [], ◌∷◌, ◌++◌, get_or, length, zero, suc, subst, cond, Bool, true, false, refl, ap, sym, ◌∙◌, arith, inl, inr}
use Rattle.std.specs.Prelude.{filter}
use Rattle.std.specs.Ordering.{nat_cmp}
use Rattle.std.specs.Cmp.{nat_cmp_total, eq_by_cmp_equiv}
use Rattle.std.specs.BTreeMap.{is_at}
use Rattle.std.specs.List.{All, list_any}
use Rattle.std.specs.List.Sorted.{IsBinarySearchResult, IsStrictlyIncreasing}
use Rattle.std.specs.declared.result.Result.{Result}
use Rattle.std.specs.declared.result.Result.TheVariants.{Ok, Err}
use Rattle.std.specs.Result.{is_ok}
use Rattle.std.specs.FinMap.{contains_key, remove, nat_cmp-IsAntisymmetric}
use Rattle.std.specs.BTreeSet.{BTreeSet, IsFromIterResult, IsOrdered}
use Rattle.std.proofs.lemmas.Bool.{cases_lt, eqb-true}
use Rattle.std.proofs.lemmas.Bool.Decides.{nat_tests}
use Rattle.std.proofs.lemmas.Grind.{common_steps}
use Rattle.std.proofs.lemmas.List.{get_or_default, map-append}
use Rattle.std.proofs.lemmas.List.Elements.{All-tail}
use Rattle.std.proofs.lemmas.Map.Lookups.{btree_set_from_contains, exact_unsigned}
use Rattle.std.proofs.lemmas.List.Folds.{list_any-append, list_any_at, list_any_none}
use Rattle.std.proofs.lemmas.List.Sorted.{searched}
use Rattle.itch_table.specs.KeySets.{set_of, with_key}
use Rattle.itch_table.proofs.SetViews.{contains_set, set_insert, set_remove}
use Rattle.stock_machine.specs.SpentParts.{risen, spent_in}

-- whether a number is one of these
abbrev pub is_in : ℕ → List ℕ → Bool
is_in n ns = list_any (is_at (nat_cmp n)) ns

pub in_parts : (n f : ℕ) (ds os : List ℕ) → is_in n (spent_in f ds os) ≡ (is_in n (risen f ds) || is_in n os)
in_parts n f ds os = list_any-append (is_at (nat_cmp n)) (risen f ds) os

pub contains_parts : (n f : ℕ) (ds os : List ℕ) → contains_key (set_of {R = nat_cmp} (spent_in f ds os)) n ≡ (is_in n (risen f ds) || is_in n os)
contains_parts n f ds os = contains_set nat_cmp_total (spent_in f ds os) n ∙ in_parts n f ds os

-- ---- distances

-- distances from the first reference are in the list where the references are
pub same_distance : (f d : ℕ) (ds : List ℕ) → is_in (f + d) (risen f ds) ≡ is_in d ds
same_distance f d [] = refl
same_distance f d (x ∷ ds) = grind (arith, common_steps, nat_tests, same_distance f d ds)

-- no reference has risen that has no distance
pub no_distance : (f n : ℕ) (ds : List ℕ) → All (λ d. f + d ≢ n) ds → is_in n (risen f ds) ≡ false
no_distance f n [] h = refl
no_distance f n (x ∷ ds) h =
    let here : f + x ≢ n = h 0 0 (omega arith) in
    let other : (n == f + x) ≡ false = other_by n (f + x) here in
    grind (arith, common_steps, nat_tests, other, no_distance f n ds (All-tail (λ d. f + d ≢ n) x ds h))
  where
    other_by : (n m : ℕ) → m ≢ n → (n == m) ≡ false
    other_by n m apart = elim (n == m) as (λ (b : Bool). (n == m) ≡ b → b ≡ false) [
      | true ↦ λ t. absurd (apart (sym (eqb-true n m t)))
      | false ↦ λ f. refl
    ] refl

below_other : (n m : ℕ) → m < n → is_at (nat_cmp n) m ≡ false
below_other n m below = grind (arith, nat_tests)

above_other : (n m : ℕ) → n < m → is_at (nat_cmp n) m ≡ false
above_other n m above = grind (arith, nat_tests)

same_at : (n m : ℕ) → m ≡ n → is_at (nat_cmp n) m ≡ true
same_at n m same = grind (arith, nat_tests)

-- a number above all is not one of them
pub above_all : (n : ℕ) (ns : List ℕ) → All (λ m. m < n) ns → is_in n ns ≡ false
above_all n ns h = list_any_none (is_at (nat_cmp n)) ns (λ k d lt. below_other n (get_or ns k d) (h k d lt))

-- ---- numbers that rise

rises_by : (ns : List ℕ) → IsStrictlyIncreasing ns → (i d : ℕ) → i + d < length ns → get_or ns i 0 ≤ get_or ns (i + d) 0
rises_by ns rises i zero lt = let same : i + 0 ≡ i = omega arith in rw same (omega arith)
rises_by ns rises i (suc d) lt =
    let next : i + suc d ≡ i + d + 1 = omega arith in
    let before : i + d + 1 < length ns = omega (arith, lt) in
    rw next (omega (arith, rises_by ns rises i d (omega arith), rises (i + d) before))

rises_to : (ns : List ℕ) → IsStrictlyIncreasing ns → (i j : ℕ) → i ≤ j → j < length ns → get_or ns i 0 ≤ get_or ns j 0
rises_to ns rises i j le lt =
    let same : i + (j - i) ≡ j = omega arith in
    subst (λ (k : ℕ). get_or ns i 0 ≤ get_or ns k 0) same (rises_by ns rises i (j - i) (omega arith))

-- what a binary search finds
pub found : (n : ℕ) (ns : List ℕ) (r : Result ℕ ℕ) → IsStrictlyIncreasing ns → IsBinarySearchResult (λ m. nat_cmp m n) ns r → is_ok r ≡ is_in n ns
found n ns (Ok i) rises is =
    let at = searched ns n (Ok i) is (rises_to ns rises) in
    sym (list_any_at (is_at (nat_cmp n)) ns i 0 at.0 (same_at n (get_or ns i 0) at.1))
found n ns (Err i) rises is =
    let at = searched ns n (Err i) is (rises_to ns rises) in
    sym (list_any_none (is_at (nat_cmp n)) ns (λ k d lt. elim (cases_lt k i) [
      | inl before ↦ rw (get_or_default ns k d 0 lt) (below_other n (get_or ns k 0) (at.1 k before))
      | inr after ↦ rw (get_or_default ns k d 0 lt) (above_other n (get_or ns k 0) (at.2 k after lt))
    ]))

-- all are below a number where the last is
pub all_below_by_last : (n : ℕ) (ns : List ℕ) → IsStrictlyIncreasing ns → get_or ns (length ns - 1) 0 < n → All (λ m. m < n) ns
all_below_by_last n ns rises last k d lt =
    let up = rises_to ns rises k (length ns - 1) (omega arith) (omega arith) in
    omega (arith, get_or_default ns k d 0 lt)

-- ---- changes

module _ (n f : ℕ) (ds os : List ℕ) where
  turned : (q : ℕ) → is_at (nat_cmp q) n ≡ is_at (nat_cmp n) q
  turned q = (eq_by_cmp_equiv nat_cmp_total).symm q n

  -- a reference that rises
  pub rise : (d : ℕ) → f + d ≡ n → set_of {R = nat_cmp} (spent_in f (ds ++ d ∷ []) os) ≡ with_key (set_of (spent_in f ds os)) n
  rise d e = set_insert nat_cmp_total nat_cmp-IsAntisymmetric (spent_in f ds os) _ n (λ q.
      in_parts q f (ds ++ d ∷ []) os
      ∙ ap (λ b. b || is_in q os)
      (ap (is_in q) (map-append (λ x. f + x) ds (d ∷ [])) ∙ list_any-append (is_at (nat_cmp q)) (risen f ds) ((f + d) ∷ [])
      ∙ ap (λ m. is_in q (risen f ds) || (is_at (nat_cmp q) m || false)) e ∙ ap (λ b. is_in q (risen f ds) || (b || false)) (turned q))
      ∙ split (is_in q (risen f ds)) (is_at (nat_cmp n) q) (is_in q os)
      ∙ ap (cond (is_at (nat_cmp n) q) true) (sym (in_parts q f ds os)))
    where
      split : (a b c : Bool) → ((a || (b || false)) || c) ≡ cond b true (a || c)
      split true true c = refl
      split true false c = refl
      split false true c = refl
      split false false c = refl

  -- a reference among the others
  pub other : (new : List ℕ) → ((q : ℕ) → is_in q new ≡ cond (is_at (nat_cmp n) q) true (is_in q os))
      → set_of {R = nat_cmp} (spent_in f ds new) ≡ with_key (set_of (spent_in f ds os)) n
  other new is = set_insert nat_cmp_total nat_cmp-IsAntisymmetric (spent_in f ds os) _ n (λ q.
      in_parts q f ds new ∙ ap (λ b. is_in q (risen f ds) || b) (is q) ∙ split (is_in q (risen f ds)) (is_at (nat_cmp n) q) (is_in q os)
      ∙ ap (cond (is_at (nat_cmp n) q) true) (sym (in_parts q f ds os)))
    where
      split : (a b c : Bool) → (a || cond b true c) ≡ cond b true (a || c)
      split true true c = refl
      split true false c = refl
      split false true c = refl
      split false false c = refl

  -- a reference that is taken out of both parts
  pub taken_out : (left new : List ℕ) → ((q : ℕ) → is_in q (risen f left) ≡ cond (is_at (nat_cmp n) q) false (is_in q (risen f ds)))
      → ((q : ℕ) → is_in q new ≡ cond (is_at (nat_cmp n) q) false (is_in q os))
      → set_of {R = nat_cmp} (spent_in f left new) ≡ remove (set_of (spent_in f ds os)) n
  taken_out left new first is = set_remove nat_cmp_total nat_cmp-IsAntisymmetric (spent_in f ds os) _ n (λ q.
      in_parts q f left new ∙ (λ i. first q i || is q i) ∙ split (is_in q (risen f ds)) (is_at (nat_cmp n) q) (is_in q os)
      ∙ ap (cond (is_at (nat_cmp n) q) false) (sym (in_parts q f ds os)))
    where
      split : (a b c : Bool) → (cond b false a || cond b false c) ≡ cond b false (a || c)
      split a true c = refl
      split a false c = refl

-- the distances without one
pub left_of : (f d : ℕ) (ds : List ℕ) (q : ℕ) → is_in q (risen f (filter (λ x. not (x == d)) ds)) ≡ cond (is_at (nat_cmp (f + d)) q) false (is_in q (risen f ds))
left_of f d [] q = none (is_at (nat_cmp (f + d)) q)
  where
    none : (b : Bool) → false ≡ cond b false false
    none true = refl
    none false = refl
left_of f d (x ∷ ds) q = grind (arith, common_steps, nat_tests, left_of f d ds q)

-- none to take out
pub none_left : (n f : ℕ) (ds : List ℕ) → All (λ d. f + d ≢ n) ds → (q : ℕ) → is_in q (risen f ds) ≡ cond (is_at (nat_cmp n) q) false (is_in q (risen f ds))
none_left n f ds h q = elim (is_at (nat_cmp n) q) as (λ (b : Bool). is_at (nat_cmp n) q ≡ b → is_in q (risen f ds) ≡ cond b false (is_in q (risen f ds))) [
  | true ↦ λ same. rw (at_same same) (no_distance f n ds h)
  | false ↦ λ apart. refl
] refl
  where
    at_same : is_at (nat_cmp n) q ≡ true → q ≡ n
    at_same same = grind (arith, nat_tests)

-- the same keys in order are the same set
pub same_keys : (s t : BTreeSet ℕ) → IsOrdered nat_cmp s → IsFromIterResult nat_cmp s.keys t → t.keys ≡ s.keys
same_keys s t ordered made = btree_set_from_contains nat_cmp_total t s made.1 ordered made.0 exact_unsigned
