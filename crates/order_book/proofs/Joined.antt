-- Orders in two parts, before and after a change of one part.
use Rattle.std.proofs.Common.{◌≡◌, ℕ, ◌+◌, ◌-◌, ◌≤◌, ◌==◌, List, [], ◌∷◌, ◌++◌, Option, None, Some, Bool, true, false, refl, ap, subst, sym, ◌∙◌, arith}
use Rattle.std.specs.Prelude.{if◌then◌else◌}
use Rattle.std.specs.Ordering.{nat_cmp}
use Rattle.std.specs.Cmp.{nat_cmp_total}
use Rattle.std.specs.Option.{IfSome, IsSome, IsSomeAnd, option_or}
use Rattle.std.specs.FinMap.{empty, entries, find, get, get-empty, get-entries, get-from_entries, get-insert, get-remove, insert, len, remove, same_map, nat_cmp-IsAntisymmetric}
use Rattle.std.proofs.lemmas.Grind.{common_steps}
use mathlib.Core.Bool.{false≢true}
use Rattle.itch_table.specs.declared.order.OrderRow.{OrderRow}
use Rattle.order_book.specs.Orders.{Orders, reduced_by}
use Rattle.order_book.specs.Parts.{AreApart, IsTable, joined}
use Rattle.order_book.proofs.Counts.{one_fewer, one_more}
use Rattle.order_book.proofs.Maps.{at_key}

find_joined : (some others : List (ℕ × OrderRow)) (q : ℕ) → find nat_cmp q (some ++ others) ≡ option_or (find nat_cmp q some) (find nat_cmp q others)
find_joined [] others q = refl
find_joined (e ∷ some) others q = grind (arith, common_steps, find_joined some others q)

pub get_joined : (some others : Orders) (q : ℕ) → get (joined some others) q ≡ option_or (get some q) (get others q)
get_joined some others q =
    get-from_entries nat_cmp_total (entries some ++ entries others) q ∙ find_joined (entries some) (entries others) q
    ∙ ap (λ o. option_or o (find nat_cmp q (entries others))) (sym (get-entries some q))
    ∙ ap (option_or (get some q)) (sym (get-entries others q))

module _ (some others : Orders) (k : ℕ) where
  pub none_in_some : get (joined some others) k ≡ None → get some k ≡ None
  none_in_some none = grind (arith, common_steps, none, get_joined some others k)

  pub none_in_others : get (joined some others) k ≡ None → get others k ≡ None
  none_in_others none = grind (arith, common_steps, none, get_joined some others k)

  pub from_some : (row : OrderRow) → get some k ≡ Some row → get (joined some others) k ≡ Some row
  from_some row there = grind (arith, common_steps, there, get_joined some others k)

  pub from_others : get some k ≡ None → get (joined some others) k ≡ get others k
  from_others none = grind (arith, common_steps, none, get_joined some others k)

  module _ (row : OrderRow) where
    pub joined_insert_some : joined (insert some k row) others ≡ insert (joined some others) k row
    joined_insert_some = same_map nat_cmp_total nat_cmp-IsAntisymmetric _ _ (λ q.
        grind (arith, common_steps, get_joined (insert some k row) others q, get_joined some others q, get-insert nat_cmp_total some k row q, get-insert nat_cmp_total (joined some others) k row q))

    pub joined_insert_other : get some k ≡ None → joined some (insert others k row) ≡ insert (joined some others) k row
    joined_insert_other none = same_map nat_cmp_total nat_cmp-IsAntisymmetric _ _ (λ q.
        grind (arith, common_steps, none, at_key nat_cmp_total nat_cmp-IsAntisymmetric some k q, get_joined some (insert others k row) q, get_joined some others q, get-insert nat_cmp_total others k row q, get-insert nat_cmp_total (joined some others) k row q))

  pub joined_remove_some : get others k ≡ None → joined (remove some k) others ≡ remove (joined some others) k
  joined_remove_some none = same_map nat_cmp_total nat_cmp-IsAntisymmetric _ _ (λ q.
      grind (arith, common_steps, none, at_key nat_cmp_total nat_cmp-IsAntisymmetric others k q, get_joined (remove some k) others q, get_joined some others q, get-remove nat_cmp_total some k q, get-remove nat_cmp_total (joined some others) k q))

  pub joined_remove_other : get some k ≡ None → joined some (remove others k) ≡ remove (joined some others) k
  joined_remove_other none = same_map nat_cmp_total nat_cmp-IsAntisymmetric _ _ (λ q.
      grind (arith, common_steps, none, at_key nat_cmp_total nat_cmp-IsAntisymmetric some k q, get_joined some (remove others k) q, get_joined some others q, get-remove nat_cmp_total others k q, get-remove nat_cmp_total (joined some others) k q))

pub joined_empty : joined empty empty ≡ empty
joined_empty = same_map nat_cmp_total nat_cmp-IsAntisymmetric _ _ (λ q.
    get_joined empty empty q ∙ ap (λ o. option_or o (get {X = OrderRow} {R = nat_cmp} empty q)) (get-empty {X = OrderRow} nat_cmp q))

-- what holds of the order under a reference holds of it in the first part
pub if_in_some : (some others : Orders) (k : ℕ) (P : OrderRow → Type 0) → IsSomeAnd (get (joined some others) k) P → IfSome (get some k) P
if_in_some some others k P holds =
    by_option (get some k) (get others k) (subst (λ (o : Option OrderRow). IsSomeAnd o P) (get_joined some others k) holds)
  where
    by_option : (o p : Option OrderRow) → IsSomeAnd (option_or o p) P → IfSome o P
    by_option None p holds = tt
    by_option (Some row) p holds = holds

-- ---- one change of a table

module _ (some others : Orders) (count k : ℕ) (table : IsTable some others count) where
  pub counted : IsSome (get (joined some others) k) → 1 ≤ count
  counted there = by_row (get (joined some others) k) refl there
    where
      by_row : (o : Option OrderRow) → get (joined some others) k ≡ o → IsSome o → 1 ≤ count
      by_row None is there = absurd (false≢true there)
      by_row (Some row) is there = omega (arith, table.1, one_fewer (joined some others) k row is)

  module _ (row : OrderRow) (free : get (joined some others) k ≡ None) where
    pub table_insert_some : IsTable (insert some k row) others (count + 1)
    table_insert_some = (
      λ q. grind (arith, common_steps, table.0 q, free, none_in_others some others k free, at_key nat_cmp_total nat_cmp-IsAntisymmetric others k q, get-insert nat_cmp_total some k row q),
      ap (λ n. n + 1) table.1 ∙ sym (ap len (joined_insert_some some others k row) ∙ one_more (joined some others) k row free),
    )

    pub table_insert_other : IsTable some (insert others k row) (count + 1)
    table_insert_other = (
      λ q. grind (arith, common_steps, table.0 q, free, none_in_some some others k free, at_key nat_cmp_total nat_cmp-IsAntisymmetric some k q, get-insert nat_cmp_total others k row q),
      ap (λ n. n + 1) table.1 ∙ sym (ap len (joined_insert_other some others k row (none_in_some some others k free)) ∙ one_more (joined some others) k row free),
    )

  module _ (row : OrderRow) (there : get some k ≡ Some row) where
    pub no_other : get others k ≡ None
    no_other = table.0 k (rw there refl)

    pub table_remove_some : IsTable (remove some k) others (count - 1)
    table_remove_some = (
      λ q. grind (arith, common_steps, table.0 q, get-remove nat_cmp_total some k q),
      omega (arith, table.1, ap len (joined_remove_some some others k no_other), one_fewer (joined some others) k row (from_some some others k row there)),
    )

  module _ (row : OrderRow) (none : get some k ≡ None) (there : get others k ≡ Some row) where
    in_both : get (joined some others) k ≡ Some row
    in_both = from_others some others k none ∙ there

    pub table_remove_other : IsTable some (remove others k) (count - 1)
    table_remove_other = (
      λ q. grind (arith, common_steps, table.0 q, get-remove nat_cmp_total others k q),
      omega (arith, table.1, ap len (joined_remove_other some others k none), one_fewer (joined some others) k row in_both),
    )

-- ---- shares come off an order of one part

module _ (some others : Orders) (k : ℕ) (apart : AreApart some others) (row : OrderRow) (shares : ℕ) where
  abbrev left : OrderRow
  left = record row { shares = row.shares - shares }

  module _ (there : get some k ≡ Some row) where
    not_other : get others k ≡ None
    not_other = apart k (rw there refl)

    pub joined_reduced_some : joined (reduced_by some k row shares) others ≡ reduced_by (joined some others) k row shares
    joined_reduced_some = by_test (row.shares == shares)
      where
        by_test : (b : Bool) → joined (if b then remove some k else insert some k left) others
            ≡ (if b then remove (joined some others) k else insert (joined some others) k left)
        by_test true = joined_remove_some some others k not_other
        by_test false = joined_insert_some some others k left

    pub apart_reduced_some : AreApart (reduced_by some k row shares) others
    apart_reduced_some = by_test (row.shares == shares)
      where
        by_test : (b : Bool) → AreApart (if b then remove some k else insert some k left) others
        by_test true q = grind (arith, common_steps, apart q, get-remove nat_cmp_total some k q)
        by_test false q = grind (arith, common_steps, apart q, not_other, at_key nat_cmp_total nat_cmp-IsAntisymmetric others k q, get-insert nat_cmp_total some k left q)

  module _ (none : get some k ≡ None) where
    pub joined_reduced_other : joined some (reduced_by others k row shares) ≡ reduced_by (joined some others) k row shares
    joined_reduced_other = by_test (row.shares == shares)
      where
        by_test : (b : Bool) → joined some (if b then remove others k else insert others k left)
            ≡ (if b then remove (joined some others) k else insert (joined some others) k left)
        by_test true = joined_remove_other some others k none
        by_test false = joined_insert_other some others k left none

    pub apart_reduced_other : AreApart some (reduced_by others k row shares)
    apart_reduced_other = by_test (row.shares == shares)
      where
        by_test : (b : Bool) → AreApart some (if b then remove others k else insert others k left)
        by_test true q = grind (arith, common_steps, apart q, get-remove nat_cmp_total others k q)
        by_test false q = grind (arith, common_steps, apart q, none, at_key nat_cmp_total nat_cmp-IsAntisymmetric some k q, get-insert nat_cmp_total others k left q)
