-- A map whose keys are all in a set, after a change.
use Rattle.std.proofs.Common.{◌≡◌, Bool, true, false, Some, cond, refl, ap, sym, ◌∙◌, arith}
use Rattle.std.specs.Option.{is_some, IsSome}
use Rattle.std.specs.declared.cmp.Ordering.{Ordering}
use Rattle.std.specs.Ordering.{eq_by_cmp}
use Rattle.std.specs.Cmp.{IsTotalOrder}
use Rattle.std.specs.FinMap.{FinMap, contains_key, empty, get, insert, remove, get-empty, get-insert, get-remove, get_tied}
use Rattle.std.proofs.lemmas.Grind.{common_steps}
use Rattle.itch_table.specs.KeySets.{KeySet, KeysAreIn, with_key}
use Rattle.itch_table.proofs.MapViews.{tied}
use Rattle.itch_table.proofs.SetViews.{contains_with}

module _ {K : Type 0} {R : K → K → Ordering} (X : Type 0) where
  pub keys_of_none : (s : KeySet R) → KeysAreIn (empty {X = X} {R = R}) s
  keys_of_none s k some = let none = get-empty {X = X} R k in cc

module _ {K X : Type 0} {R : K → K → Ordering} (o : IsTotalOrder R) (m : FinMap R X) (s : KeySet R) (all : KeysAreIn m s) (k : K) where
  -- a key more in both
  pub keys_insert : (v : X) → KeysAreIn (insert m k v) (with_key s k)
  keys_insert v q some = grind (arith, common_steps, contains_with o s k q, get-insert o m k v q, all q)

  pub keys_remove : KeysAreIn (remove m k) s
  keys_remove q some = grind (arith, common_steps, get-remove o m k q, all q)

  -- another value under a key that is there
  pub keys_update : (v : X) → IsSome (get m k) → KeysAreIn (insert m k v) s
  keys_update v here q some = elim (eq_by_cmp R q k) as (λ (b : Bool). eq_by_cmp R q k ≡ b → contains_key s q ≡ true) [
    | true ↦ λ ties. all q (ap is_some (sym (get_tied o m q k (tied R q k ties))) ∙ here)
    | false ↦ λ ties. all q (sym (ap is_some (get-insert o m k v q ∙ ap (λ (b : Bool). cond b (Some v) (get m q)) ties)) ∙ some)
  ] refl
