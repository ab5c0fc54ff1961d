-- A list of which only a range can pass a test.
use Rattle.std.proofs.Common.{◌≡◌, ℕ, ◌+◌, ◌≤◌, suc, List, [], ◌∷◌, ◌++◌, ◌||◌, map, take, drop, length, Bool, false, refl, ap, sym, subst, ◌∙◌, arith}
use Rattle.std.specs.List.{All, AllWithin, list_any, slice_range}
use Rattle.std.proofs.Math.Bool.{or-false}
use Rattle.std.proofs.lemmas.List.{get_or-take, get_or-drop, length-take, length-drop, map-append, take-append-drop}
use Rattle.std.proofs.lemmas.List.Folds.{drop_split, list_any-append, list_any_none}

module _ {X : Type 0} where
  pub all_before : (P : X → Type 0) (xs : List X) (i : ℕ) → AllWithin P xs 0 i → All P (take i xs)
  all_before P xs i h k d lt =
      let long = length-take i xs in
      subst P (sym (get_or-take i xs k d (omega arith))) (h k d (omega arith) (omega arith))

  pub all_after : (P : X → Type 0) (xs : List X) (i : ℕ) → AllWithin P xs i (length xs) → All P (drop i xs)
  all_after P xs i h k d lt =
      let long = length-drop i xs in
      subst P (sym (get_or-drop i xs k d)) (h (i + k) d (omega arith) (omega arith))

  -- what passes stands in the range
  pub any_between : (p : X → Bool) (xs : List X) (start end : ℕ) → start ≤ end → All (λ x. p x ≡ false) (take start xs) → All (λ x. p x ≡ false) (drop end xs)
      → list_any p (slice_range xs start end) ≡ list_any p xs
  any_between p xs start end le before after =
      let inner = slice_range xs start end in
      sym (
      ap (list_any p) (sym (take-append-drop start xs) ∙ ap (λ (l : List X). take start xs ++ l) (drop_split xs start end le))
      ∙ list_any-append p (take start xs) (inner ++ drop end xs)
      ∙ ap (λ b. b || list_any p (inner ++ drop end xs)) (list_any_none p (take start xs) before)
      ∙ list_any-append p inner (drop end xs)
      ∙ ap (λ b. list_any p inner || b) (list_any_none p (drop end xs) after)
      ∙ or-false (list_any p inner)
      )

  pub map_unchanged : (f : X → X) (xs : List X) → All (λ x. f x ≡ x) xs → map f xs ≡ xs
  map_unchanged f [] h = refl
  map_unchanged f (x ∷ xs) h = λ i. h 0 x (omega arith) i ∷ map_unchanged f xs (λ k d lt. h (suc k) d (omega arith)) i

  -- a list is mapped where a part of it is, and the rest stays as it was and is unchanged by the map
  pub mapped_whole : (f : X → X) (xs ys : List X) (i : ℕ) → take i ys ≡ map f (take i xs) → drop i ys ≡ drop i xs → All (λ x. f x ≡ x) (drop i xs) → ys ≡ map f xs
  mapped_whole f xs ys i done rest after =
      sym (take-append-drop i ys) ∙ (λ j. done j ++ rest j)
      ∙ ap (λ (l : List X). map f (take i xs) ++ l) (sym (map_unchanged f (drop i xs) after))
      ∙ sym (map-append f (take i xs) (drop i xs)) ∙ ap (map f) (take-append-drop i xs)
