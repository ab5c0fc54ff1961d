-- Finite maps after two changes at one key.
use Rattle.std.proofs.Common.{◌≡◌, Some, None, true, cond, ap, ◌∙◌, arith}
use Rattle.std.specs.declared.cmp.Ordering.{Ordering}
use Rattle.std.specs.Ordering.{eq_by_cmp}
use Rattle.std.specs.Cmp.{IsTotalOrder, eq_by_cmp_equiv}
use Rattle.std.specs.FinMap.{FinMap, get, insert, remove, get-insert, get-remove, same_map, IsAntisymmetric}
use Rattle.std.proofs.lemmas.Grind.{common_steps}
use Rattle.std.proofs.lemmas.Map.Views.{tells_apart}

module _ {K X : Type 0} {R : K → K → Ordering} (o : IsTotalOrder R) where
  pub get_inserted : (m : FinMap R X) (k : K) (v : X) → get (insert m k v) k ≡ Some v
  get_inserted m k v = get-insert o m k v k ∙ ap (λ b. cond b (Some v) (get m k)) ((eq_by_cmp_equiv o).refl k)

  pub get_removed : (m : FinMap R X) (k : K) → get (remove m k) k ≡ None
  get_removed m k = get-remove o m k k ∙ ap (λ b. cond b None (get m k)) ((eq_by_cmp_equiv o).refl k)

  module _ (same : IsAntisymmetric R) where
    pub insert_again : (m : FinMap R X) (k : K) (v w : X) → insert (insert m k v) k w ≡ insert m k w
    insert_again m k v w = same_map o same _ _ (λ q.
        grind (arith, common_steps, get-insert o (insert m k v) k w q, get-insert o m k v q, get-insert o m k w q))

    pub insert_removed : (m : FinMap R X) (k : K) (w : X) → insert (remove m k) k w ≡ insert m k w
    insert_removed m k w = same_map o same _ _ (λ q.
        grind (arith, common_steps, get-insert o (remove m k) k w q, get-insert o m k w q, get-remove o m k q))

    -- what an inserted entry leaves once it is removed, and the other way round
    pub at_key : (m : FinMap R X) (k q : K) → eq_by_cmp R q k ≡ true → get m q ≡ get m k
    at_key m k q tied = ap (get m) (tells_apart same q k tied)

    pub remove_inserted : (m : FinMap R X) (k : K) (v : X) → get m k ≡ None → remove (insert m k v) k ≡ m
    remove_inserted m k v none = same_map o same _ _ (λ q.
        grind (arith, common_steps, get-remove o (insert m k v) k q, get-insert o m k v q, at_key m k q, none))

    pub put_back : (m : FinMap R X) (k : K) (v : X) → get m k ≡ Some v → insert (remove m k) k v ≡ m
    put_back m k v some = same_map o same _ _ (λ q.
        grind (arith, common_steps, get-insert o (remove m k) k v q, get-remove o m k q, at_key m k q, some))

    pub remove_absent : (m : FinMap R X) (k : K) → get m k ≡ None → remove m k ≡ m
    remove_absent m k none = same_map o same _ _ (λ q.
        grind (arith, common_steps, get-remove o m k q, at_key m k q, none))
