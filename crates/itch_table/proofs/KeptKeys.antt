-- A map of which the entries under some keys are kept, before and after a change.
use Rattle.std.proofs.Common.{◌≡◌, Bool, true, false, None, cond, ap, sym, ◌∙◌, arith}
use Rattle.std.specs.Prelude.{filter}
use Rattle.std.specs.declared.cmp.Ordering.{Ordering}
use Rattle.std.specs.Ordering.{eq_by_cmp}
use Rattle.std.specs.Cmp.{IsTotalOrder}
use Rattle.std.specs.FinMap.{FinMap, empty, get-empty, entries, entries_sorted, get, get-entries, get-from_sorted, entries-from_sorted, from_sorted, insert, remove, retain_keys, get-insert, get-remove, get-retain_keys, same_map, IsAntisymmetric}
use Rattle.std.specs.FinMap.Entries.{find-where_key, is_sorted-where_key, where_key}
use Rattle.std.proofs.lemmas.Grind.{common_steps}
use Rattle.std.proofs.lemmas.Map.Views.{tells_apart}

one_answer : {K : Type 0} (R : K → K → Ordering) → IsAntisymmetric R → (p : K → Bool) (q k : K) → eq_by_cmp R q k ≡ true → p q ≡ p k
one_answer R same p q k e = ap p (tells_apart same q k e)

module _ {K X : Type 0} {R : K → K → Ordering} (o : IsTotalOrder R) (same : IsAntisymmetric R) (p : K → Bool) where
  pub get-kept : (m : FinMap R X) (q : K) → get (retain_keys m p) q ≡ cond (p q) (get m q) None
  get-kept m q = get-retain_keys m p q (λ x e. ap p (sym (same q x e)))

  pub entries-kept : (m : FinMap R X) → entries (retain_keys m p) ≡ filter (λ e. p e.0) (entries m)
  entries-kept m =
      let sorted = is_sorted-where_key R p (entries m) (entries_sorted m) in
      ap entries (same_map o same (retain_keys m p) (from_sorted (where_key R p (entries m))) (λ q.
      get-kept m q ∙ ap (λ v. cond (p q) v None) (get-entries m q)
      ∙ sym (get-from_sorted R (where_key R p (entries m)) q sorted ∙ find-where_key R p q (λ x e. ap p (sym (same q x e))) (entries m))))
      ∙ entries-from_sorted R (where_key R p (entries m)) sorted

  -- to insert under a key that is kept, before or after
  pub kept-insert : (m : FinMap R X) (k : K) (v : X) → p k ≡ true → insert (retain_keys m p) k v ≡ retain_keys (insert m k v) p
  kept-insert m k v h = same_map o same _ _ (λ q.
      grind (arith, common_steps, get-insert o (retain_keys m p) k v q, get-kept m q, get-kept (insert m k v) q, get-insert o m k v q, one_answer R same p q k))

  -- to insert under a key that isn't kept
  pub dropped-insert : (m : FinMap R X) (k : K) (v : X) → p k ≡ false → retain_keys (insert m k v) p ≡ retain_keys m p
  dropped-insert m k v h = same_map o same _ _ (λ q.
      grind (arith, common_steps, get-kept m q, get-kept (insert m k v) q, get-insert o m k v q, one_answer R same p q k))

  pub kept-remove : (m : FinMap R X) (k : K) → remove (retain_keys m p) k ≡ retain_keys (remove m k) p
  kept-remove m k = same_map o same _ _ (λ q.
      grind (arith, common_steps, get-remove o (retain_keys m p) k q, get-kept m q, get-kept (remove m k) q, get-remove o m k q))

  pub dropped-remove : (m : FinMap R X) (k : K) → p k ≡ false → retain_keys (remove m k) p ≡ retain_keys m p
  dropped-remove m k h = same_map o same _ _ (λ q.
      grind (arith, common_steps, get-kept m q, get-kept (remove m k) q, get-remove o m k q, one_answer R same p q k))

  pub kept-empty : retain_keys (empty {X = X} {R = R}) p ≡ empty
  kept-empty = same_map o same _ _ (λ q. grind (arith, common_steps, get-kept (empty {X = X} {R = R}) q, get-empty {X = X} R q))
