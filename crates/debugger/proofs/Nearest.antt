-- The least of several next stops, the greatest of several earlier ones, and the first breakpoint that stops.
use Rattle.std.proofs.Common.{◌≡◌, ℕ, ◌+◌, ◌-◌, ◌<◌, List, [], ◌∷◌, ◌++◌, length, filter, Bool, true, false, get_or, map, refl, sym, ap, ◌∙◌, arith, inl, inr, take}
use Rattle.std.specs.Prelude.{Option, Some, None, ◌||◌, min, max, nat_eq}
use Rattle.std.specs.List.{range_with_len, remove}
use Rattle.std.specs.Option.{option_eq}
use Rattle.std.proofs.lemmas.Bool.{cases_lt, false≢true, eqb-true, eqb-false, lt-ltb, le-ltb}
use Rattle.std.proofs.lemmas.List.{get_or-map, length-map, map-append}
use Rattle.std.proofs.lemmas.List.Sums.{position_or_len_is}
use Rattle.std.proofs.lemmas.List.Folds.{list_any_more}
use Rattle.indexmap.proofs.SetLemmas.{map-remove}
use Rattle.debugger.specs.declared.breakpoint.Break.{Break}
use Rattle.debugger.specs.declared.breakpoint.Break.TheVariants.{Time}
use Rattle.debugger.specs.Finding.{IsLatest, IsNext, IsOnward, IsRearward}
use Rattle.debugger.specs.Stops.{hit, stop, stops_at, stops_of}

pub break_of : List Break → ℕ → Break
break_of breaks i = get_or breaks i (Time 0)

pub test_of : List Break → List (List ℕ) → ℕ → ℕ → Bool
test_of breaks day i n = stop (break_of breaks i) day n

module _ (breaks : List Break) (day : List (List ℕ)) (i : ℕ) (lt : i < length breaks) where
  pub stops_more : (n : ℕ) → stops_at (take (i + 1) breaks) day n ≡ (stops_at (take i breaks) day n || test_of breaks day i n)
  unfolding break_of test_of
  stops_more n = list_any_more (λ b. stop b day n) breaks i (Time 0) lt

or_fails : (a b : Bool) → a ≡ false → b ≡ false → (a || b) ≡ false
or_fails a b x y = rw (x, y) refl

or_left : (a b : Bool) → a ≡ true → (a || b) ≡ true
or_left a b x = rw x refl

or_right : (a b : Bool) → b ≡ true → (a || b) ≡ true
or_right true b x = refl
or_right false b x = x

-- one test more
module _ (p q r : ℕ → Bool) (more : (n : ℕ) → r n ≡ (q n || p n)) where
  pub onward_none : (from last least : ℕ) → IsOnward q from last least → IsNext p from last None → IsOnward r from last least
  onward_none from last least before next = record {
    later = before.later;
    within = before.within;
    between = λ n low high. (more n ∙ or_fails _ _ (before.between n low high) (next n low (omega (arith, before.within))));
    stops = λ lt. more least ∙ or_left _ _ (before.stops lt);
  }

  pub onward_some : (from last least at : ℕ) → IsOnward q from last least → IsNext p from last (Some at) → (best : ℕ) → best ≡ min at least → IsOnward r from last best
  onward_some from last least at before next best is = elim (cases_lt at least) [
    | inl lt ↦
        let e : best ≡ at = omega (arith, is) in
        rw e (record {
          later = next.0;
          within = next.1;
          between = λ n low high. more n ∙ or_fails _ _ (before.between n low (omega arith)) (next.3 n low high);
          stops = λ some. more at ∙ or_right _ _ next.2;
        })
    | inr ge ↦
        let e : best ≡ least = omega (arith, is) in
        rw e (record {
          later = before.later;
          within = before.within;
          between = λ n low high. more n ∙ or_fails _ _ (before.between n low high) (next.3 n low (omega arith));
          stops = λ some. more least ∙ or_left _ _ (before.stops some);
        })
  ]

  pub rearward_none : (from greatest : ℕ) → IsRearward q from greatest → IsLatest p (from - 1) None → IsRearward r from greatest
  rearward_none from greatest before latest = record {
    earlier = before.earlier;
    between = λ n low high. more n ∙ or_fails _ _ (before.between n low high) (latest n (omega arith) (omega arith));
    stops = λ some. more greatest ∙ or_left _ _ (before.stops some);
  }

  pub rearward_some : (from greatest at : ℕ) → IsRearward q from greatest → IsLatest p (from - 1) (Some at) → (best : ℕ) → best ≡ max at greatest → IsRearward r from best
  rearward_some from greatest at before latest best is = elim (cases_lt greatest at) [
    | inl lt ↦
        let e : best ≡ at = omega (arith, is) in
        rw e (record {
          earlier = omega (arith, latest.0, latest.1);
          between = λ n low high. more n ∙ or_fails _ _ (before.between n (omega arith) high) (latest.3 n low (omega arith));
          stops = λ some. more at ∙ or_right _ _ latest.2;
        })
    | inr ge ↦
        let e : best ≡ greatest = omega (arith, is) in
        rw e (record {
          earlier = before.earlier;
          between = λ n low high. more n ∙ or_fails _ _ (before.between n low high) (latest.3 n (omega arith) (omega arith));
          stops = λ some. more greatest ∙ or_left _ _ (before.stops some);
        })
  ]

-- ---- whether the latest stop up to a message is that message

pub hit_here : (p : ℕ → Bool) (at : ℕ) (o : Option ℕ) → option_eq nat_eq o (Some at) ≡ true → IsLatest p at o → p at ≡ true
hit_here p at None same latest = absurd (false≢true same)
hit_here p at (Some m) same latest = let e : m ≡ at = eqb-true m at same in rw (← e) latest.2

pub hit_other : (p : ℕ → Bool) (at : ℕ) (o : Option ℕ) → 0 < at → option_eq nat_eq o (Some at) ≡ false → IsLatest p at o → p at ≡ false
hit_other p at None some other latest = latest at some (omega arith)
hit_other p at (Some m) some other latest =
    let apart = eqb-false m at other in
    latest.3 at (omega (arith, latest.1, apart)) (omega arith)

module _ (breaks : List Break) (day : List (List ℕ)) (at : ℕ) where
  -- the first breakpoint that stops there
  pub hit_some : (i : ℕ) → i < length breaks → ((k : ℕ) → k < i → test_of breaks day k at ≡ false) → test_of breaks day i at ≡ true → Some i ≡ hit breaks day at
  unfolding test_of break_of
  hit_some i lt before here =
      let is = position_or_len_is (λ b. stop b day at) breaks i (Time 0) (omega arith) before (λ _. here) in
      rw (is, lt-ltb i (length breaks) lt) refl

  pub hit_none : ((k : ℕ) → k < length breaks → test_of breaks day k at ≡ false) → None ≡ hit breaks day at
  unfolding test_of break_of
  hit_none before =
      let is = position_or_len_is (λ b. stop b day at) breaks (length breaks) (Time 0) (omega arith) before (λ lt. absurd (omega arith)) in
      rw (is, le-ltb (length breaks) (length breaks) (omega arith)) refl

-- ---- the lists of the breakpoints

module _ {V : Type 0} (items : V → List ℕ) (breaks : List Break) (day : List (List ℕ)) (lists : List V) (are : map items lists ≡ map (stops_of day) breaks) where
  pub list_below : (i : ℕ) → i < length lists → i < length breaks
  list_below i lt = omega (arith, lt, length-map lists items, length-map breaks (stops_of day), ap length are)

  pub list_count : length lists ≡ length breaks
  list_count = omega (arith, length-map lists items, length-map breaks (stops_of day), ap length are)

  -- that of a breakpoint has the messages at which it stops
  pub list_is : (i : ℕ) (list : V) → i < length lists → list ≡ get_or lists i list → items list ≡ filter (test_of breaks day i) (range_with_len 1 (length day))
  unfolding break_of test_of stops_of
  list_is i list lt is =
      ap items is ∙ sym (get_or-map items lists i list (items list) lt) ∙ ap (λ (l : List (List ℕ)). get_or l i (items list)) are
      ∙ get_or-map (stops_of day) breaks i (Time 0) (items list) (list_below i lt)

  -- one is taken out with its breakpoint
  pub list_removed : (i : ℕ) → map items (remove lists i) ≡ map (stops_of day) (remove breaks i)
  list_removed i = map-remove items lists i ∙ ap (λ (l : List (List ℕ)). remove l i) are ∙ sym (map-remove (stops_of day) breaks i)

  -- or added with it
  pub list_added : (list : V) (breakpoint : Break) → items list ≡ stops_of day breakpoint → map items (lists ++ list ∷ []) ≡ map (stops_of day) (breaks ++ breakpoint ∷ [])
  list_added list breakpoint is =
      map-append items lists (list ∷ []) ∙ ap (λ (l : List (List ℕ)). l ++ items list ∷ []) are
      ∙ ap (λ (s : List ℕ). map (stops_of day) breaks ++ s ∷ []) is ∙ sym (map-append (stops_of day) breaks (breakpoint ∷ []))
