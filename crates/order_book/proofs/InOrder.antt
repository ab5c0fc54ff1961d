-- Lists in strict order, split around one element.
use Rattle.std.proofs.Common.{◌≡◌, ℕ, zero, suc, ◌+◌, ◌<◌, List, [], ◌∷◌, ◌++◌, take, drop, length, length-drop, sym, subst, arith}
use Rattle.std.specs.declared.cmp.Ordering.{Ordering}
use Rattle.std.specs.declared.cmp.Ordering.TheVariants.{Less}
use Rattle.std.specs.List.{AllByRecursion, AllWithin}
use Rattle.std.specs.List.Sorted.{IsStrictlySortedBy}
use Rattle.std.proofs.lemmas.List.{get_or-take, get_or-drop, length-take}
use Rattle.std.proofs.lemmas.List.Elements.{recursion_from_All}

module _ {X : Type 0} (P : X → Type 0) (x : X) (back : List X) where
  all_with : (front : List X) → P x → AllByRecursion P (front ++ back) → AllByRecursion P (front ++ x ∷ back)
  all_with [] holds all = (holds, all)
  all_with (y ∷ front) holds all = (all.0, all_with front holds all.1)

  all_at : (front : List X) → AllByRecursion P (front ++ x ∷ back) → P x
  all_at [] all = all.0
  all_at (y ∷ front) all = all_at front all.1

  all_without : (front : List X) → AllByRecursion P (front ++ x ∷ back) → AllByRecursion P (front ++ back)
  all_without [] all = all.1
  all_without (y ∷ front) all = (all.0, all_without front all.1)

pub all_joined : {X : Type 0} (P : X → Type 0) (front back : List X) → AllByRecursion P front → AllByRecursion P back
    → AllByRecursion P (front ++ back)
all_joined P [] back before after = after
all_joined P (y ∷ front) back before after = (before.0, all_joined P front back before.1 after)

pub all_weaker : {X : Type 0} (P Q : X → Type 0) → ((x : X) → P x → Q x) → (xs : List X) → AllByRecursion P xs → AllByRecursion Q xs
all_weaker P Q weaker [] all = tt
all_weaker P Q weaker (x ∷ xs) all = (weaker x all.0, all_weaker P Q weaker xs all.1)

pub all_before : {X : Type 0} (P : X → Type 0) (xs : List X) (i : ℕ) → AllWithin P xs 0 i → AllByRecursion P (take i xs)
all_before P xs i all = recursion_from_All P (take i xs) (λ k d lt.
    let below : k < i = omega (arith, length-take i xs) in
    subst P (sym (get_or-take i xs k d below)) (all k d (omega arith) below))

pub all_from : {X : Type 0} (P : X → Type 0) (xs : List X) (i : ℕ) → AllWithin P xs i (length xs) → AllByRecursion P (drop i xs)
all_from P xs i all = recursion_from_All P (drop i xs) (λ k d lt.
    subst P (sym (get_or-drop i xs k d)) (all (i + k) d (omega arith) (omega (arith, length-drop i xs))))

-- a list in order, split where x stands, or would stand
pub record IsSplit {X : Type 0} (R : X → X → Ordering) (front : List X) (x : X) (back : List X) : Type 0 where
  pub sorted : IsStrictlySortedBy R (front ++ back)
  pub below : AllByRecursion (λ y. R y x ≡ Less) front
  pub above : AllByRecursion (λ y. R x y ≡ Less) back

module _ {X : Type 0} (R : X → X → Ordering) (x : X) (back : List X) where
  pub sorted_with : (front : List X) → IsSplit R front x back → IsStrictlySortedBy R (front ++ x ∷ back)
  unfolding IsStrictlySortedBy
  sorted_with [] split = (split.above, split.sorted)
  sorted_with (y ∷ front) split =
      let rest : IsSplit R front x back = record { sorted = split.sorted.1; below = split.below.1; above = split.above } in
      (all_with (λ z. R y z ≡ Less) x back front split.below.0 split.sorted.0, sorted_with front rest)

  pub split_at : (front : List X) → IsStrictlySortedBy R (front ++ x ∷ back) → IsSplit R front x back
  unfolding IsStrictlySortedBy
  split_at [] sorted = record { sorted = sorted.1; below = tt; above = sorted.0 }
  split_at (y ∷ front) sorted =
      let rest = split_at front sorted.1 in
      record {
        sorted = (all_without (λ z. R y z ≡ Less) x back front sorted.0, rest.sorted);
        below = (all_at (λ z. R y z ≡ Less) x back front sorted.0, rest.below);
        above = rest.above;
      }

pub sorted_drop : {X : Type 0} (R : X → X → Ordering) (n : ℕ) (xs : List X) → IsStrictlySortedBy R xs → IsStrictlySortedBy R (drop n xs)
unfolding IsStrictlySortedBy
sorted_drop R zero xs sorted = sorted
sorted_drop R (suc n) [] sorted = tt
sorted_drop R (suc n) (x ∷ xs) sorted = sorted_drop R n xs sorted.1
