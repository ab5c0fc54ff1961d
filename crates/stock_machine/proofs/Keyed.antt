-- What stands under references, under their locate code, looked up and changed.
use Rattle.std.proofs.Common.{suc, ◌≡◌, ℕ, ◌==◌, ◌&&◌, List, [], ◌∷◌, map, length, Option, None, cond, Bool, true, false, refl, ap, sym, ◌∙◌, arith, subst}
use Rattle.std.specs.Prelude.{T}
use Rattle.std.specs.declared.cmp.Ordering.TheVariants.{Equal}
use Rattle.std.specs.Ordering.{is_lt, eq_by_cmp, nat_cmp, ordering_then}
use Rattle.std.specs.Cmp.{nat_cmp_total, eq_by_cmp_equiv}
use Rattle.std.specs.FinMap.{FinMap, entries, entries_sorted, find, get, get-entries, insert, remove, len, len-entries, get-from_sorted, entries-from_sorted, get-insert, get-remove, same_map}
use Rattle.std.specs.FinMap.Entries.{is_sorted, below_all}
use Rattle.std.proofs.lemmas.Grind.{common_steps}
use Rattle.std.proofs.lemmas.Bool.Decides.{nat_tests}
use Rattle.itch_table.specs.World.{key, key_cmp}
use Rattle.itch_table.specs.declared.order.OrderKey.{OrderKey}
use Rattle.itch_table.proofs.Keys.{key_total, key_exact}
use Rattle.itch_table.proofs.MapViews.{tied}
use Rattle.itch_table.proofs.OneStock.{same_code}
use Rattle.stock_machine.specs.StockRows.{keyed}

-- rows under their keys
abbrev pub at : {X : Type 0} → ℕ → List (ℕ × X) → List (OrderKey × X)
at locate rows = map (λ e. (key locate e.0, e.1)) rows

self_equal : (n : ℕ) → nat_cmp n n ≡ Equal
self_equal n = tied nat_cmp n n ((eq_by_cmp_equiv nat_cmp_total).refl n)

same_order : (l a b : ℕ) → key_cmp (key l a) (key l b) ≡ nat_cmp a b
same_order l a b = ap (λ r. ordering_then r (nat_cmp a b)) (self_equal l)

same_key : (h l r k : ℕ) → eq_by_cmp key_cmp (key h r) (key l k) ≡ cond (h == l) (eq_by_cmp nat_cmp r k) false
same_key h l r k = grind (arith, common_steps, nat_tests)

module _ {X : Type 0} where
  same_below : (l k : ℕ) (es : List (ℕ × X)) → below_all key_cmp (key l k) (at l es) ≡ below_all nat_cmp k es
  same_below l k [] = refl
  same_below l k (e ∷ es) = λ i. is_lt (same_order l k e.0 i) && same_below l k es i

  same_sorted : (l : ℕ) (es : List (ℕ × X)) → is_sorted key_cmp (at l es) ≡ is_sorted nat_cmp es
  same_sorted l [] = refl
  same_sorted l (e ∷ es) = λ i. same_below l e.0 es i && same_sorted l es i

  keyed_sorted : (l : ℕ) (m : FinMap nat_cmp X) → T (is_sorted key_cmp (at l (entries m)))
  keyed_sorted l m = subst T (sym (same_sorted l (entries m))) (entries_sorted m)

  pub entries_keyed : (l : ℕ) (m : FinMap nat_cmp X) → entries (keyed l m) ≡ at l (entries m)
  entries_keyed l m = entries-from_sorted key_cmp (at l (entries m)) (keyed_sorted l m)

  find_at : (h l r : ℕ) (es : List (ℕ × X)) → find key_cmp (key h r) (at l es) ≡ cond (h == l) (find nat_cmp r es) None
  find_at h l r [] = nothing (h == l)
    where
      none : Option X
      none = None

      nothing : (b : Bool) → none ≡ cond b none none
      nothing true = refl
      nothing false = refl
  find_at h l r (e ∷ es) = grind (arith, common_steps, same_key h l r e.0, find_at h l r es)

  pub get_keyed : (h l r : ℕ) (m : FinMap nat_cmp X) → get (keyed l m) (key h r) ≡ cond (h == l) (get m r) None
  get_keyed h l r m = get-from_sorted key_cmp (at l (entries m)) (key h r) (keyed_sorted l m) ∙ find_at h l r (entries m) ∙ ap (λ o. cond (h == l) o None) (sym (get-entries m r))

  -- what lives in the book lives under the locate code
  pub live_keyed : (l r : ℕ) (m : FinMap nat_cmp X) → get (keyed l m) (key l r) ≡ get m r
  live_keyed l r m = get_keyed l l r m ∙ ap (λ b. cond b (get m r) None) (same_code l)

  pub keyed_insert : (l k : ℕ) (v : X) (m : FinMap nat_cmp X) → keyed l (insert m k v) ≡ insert (keyed l m) (key l k) v
  keyed_insert l k v m = same_map key_total key_exact _ _ (λ q.
      grind (arith, common_steps, get_keyed q.locate l q.reference (insert m k v), get-insert nat_cmp_total m k v q.reference, get-insert key_total (keyed l m) (key l k) v q, get_keyed q.locate l q.reference m, same_key q.locate l q.reference k))

  pub keyed_remove : (l k : ℕ) (m : FinMap nat_cmp X) → keyed l (remove m k) ≡ remove (keyed l m) (key l k)
  keyed_remove l k m = same_map key_total key_exact _ _ (λ q.
      grind (arith, common_steps, get_keyed q.locate l q.reference (remove m k), get-remove nat_cmp_total m k q.reference, get-remove key_total (keyed l m) (key l k) q, get_keyed q.locate l q.reference m, same_key q.locate l q.reference k))

  pub len_keyed : (l : ℕ) (m : FinMap nat_cmp X) → len (keyed l m) ≡ len m
  len_keyed l m = len-entries (keyed l m) ∙ ap length (entries_keyed l m) ∙ same_length (entries m) ∙ sym (len-entries m)
    where
      same_length : (es : List (ℕ × X)) → length (at l es) ≡ length es
      same_length [] = refl
      same_length (e ∷ es) = ap suc (same_length es)
