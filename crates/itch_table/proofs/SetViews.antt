-- A list's keys as a set, before and after a change.
use Rattle.std.proofs.Common.{◌≡◌, List, [], ◌∷◌, Option, Some, None, cond, Bool, true, false, refl, ap, sym, ◌∙◌, ◌||◌}
use Rattle.std.specs.Ordering.{eq_by_cmp}
use Rattle.std.specs.declared.cmp.Ordering.{Ordering}
use Rattle.std.specs.BTreeMap.{is_at}
use Rattle.std.specs.List.{list_any}
use Rattle.std.specs.Option.{is_some}
use Rattle.std.specs.Cmp.{IsTotalOrder, eq_by_cmp_equiv}
use Rattle.std.specs.FinMap.{contains_key, get, remove, get-empty, get-insert, get-remove, get_tied, same_map, IsAntisymmetric}
use Rattle.itch_table.specs.KeySets.{KeySet, set_of, with_key}
use Rattle.itch_table.proofs.MapViews.{tied}

-- what stands at a key of a set
abbrev pub here : Bool → Option (Unit {0})
here b = cond b (Some tt) None

module _ {K : Type 0} {R : K → K → Ordering} (o : IsTotalOrder R) where
  pub get_set : (ks : List K) (q : K) → get (set_of {R = R} ks) q ≡ here (list_any (is_at (R q)) ks)
  get_set [] q = get-empty R q
  get_set (k ∷ ks) q = get-insert o (set_of ks) k tt q ∙ ap (cond (eq_by_cmp R q k) (Some tt)) (get_set ks q) ∙ first (eq_by_cmp R q k)
    where
      first : (b : Bool) → cond b (Some tt) (here (list_any (is_at (R q)) ks)) ≡ here (b || list_any (is_at (R q)) ks)
      first true = refl
      first false = refl

  pub contains_set : (ks : List K) (q : K) → contains_key (set_of {R = R} ks) q ≡ list_any (is_at (R q)) ks
  contains_set ks q = ap is_some (get_set ks q) ∙ some (list_any (is_at (R q)) ks)
    where
      some : (b : Bool) → is_some (here b) ≡ b
      some true = refl
      some false = refl

  pub contains_with : (s : KeySet R) (k q : K) → contains_key (with_key s k) q ≡ cond (eq_by_cmp R q k) true (contains_key s q)
  contains_with s k q = ap is_some (get-insert o s k tt q) ∙ split (eq_by_cmp R q k)
    where
      split : (b : Bool) → is_some (cond b (Some tt) (get s q)) ≡ cond b true (contains_key s q)
      split true = refl
      split false = refl

  module _ (same : IsAntisymmetric R) where
    pub set_insert : (ks js : List K) (k : K) → ((q : K) → list_any (is_at (R q)) js ≡ cond (is_at (R k) q) true (list_any (is_at (R q)) ks))
        → set_of {R = R} js ≡ with_key (set_of ks) k
    set_insert ks js k updates = same_map o same _ _ (λ q.
        get_set js q ∙ ap here (updates q ∙ ap (λ b. cond b true (list_any (is_at (R q)) ks)) ((eq_by_cmp_equiv o).symm k q))
        ∙ split (eq_by_cmp R q k) (list_any (is_at (R q)) ks) ∙ ap (cond (eq_by_cmp R q k) (Some tt)) (sym (get_set ks q)) ∙ sym (get-insert o (set_of ks) k tt q))
      where
        split : (b c : Bool) → here (cond b true c) ≡ cond b (Some tt) (here c)
        split true c = refl
        split false c = refl

    pub set_remove : (ks js : List K) (k : K) → ((q : K) → list_any (is_at (R q)) js ≡ cond (is_at (R k) q) false (list_any (is_at (R q)) ks))
        → set_of {R = R} js ≡ remove (set_of ks) k
    set_remove ks js k updates = same_map o same _ _ (λ q.
        get_set js q ∙ ap here (updates q ∙ ap (λ b. cond b false (list_any (is_at (R q)) ks)) ((eq_by_cmp_equiv o).symm k q))
        ∙ split (eq_by_cmp R q k) (list_any (is_at (R q)) ks) ∙ ap (cond (eq_by_cmp R q k) None) (sym (get_set ks q)) ∙ sym (get-remove o (set_of ks) k q))
      where
        split : (b c : Bool) → here (cond b false c) ≡ cond b None (here c)
        split true c = refl
        split false c = refl

    -- to take out a key again that has just come leaves the set as it was
    pub taken_back : (s : KeySet R) (k : K) → contains_key s k ≡ false → remove (with_key s k) k ≡ s
    taken_back s k out = same_map o same _ _ (λ q.
        get-remove o (with_key s k) k q ∙ ap (cond (eq_by_cmp R q k) None) (get-insert o s k tt q) ∙ split q (eq_by_cmp R q k) refl)
      where
        none : (o : Option (Unit {0})) → is_some o ≡ false → None ≡ o
        none None h = refl
        none (Some u) h = cc

        split : (q : K) (b : Bool) → eq_by_cmp R q k ≡ b → cond b None (cond b (Some tt) (get s q)) ≡ get s q
        split q true ties = none (get s k) out ∙ get_tied o s q k (tied R q k ties)
        split q false ties = refl
