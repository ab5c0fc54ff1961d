-- Orders in a list by rising reference, and those of them that live, before and after a change of the list.
use Rattle.std.proofs.Common.{◌≡◌, ℕ, suc, ◌+◌, ◌-◌, ◌<◌, ◌≤◌, ◌==◌, List, [], ◌∷◌, ◌++◌, take, drop, set, get_or, length, map, append-nil, Option, None, Some, Bool, cond, true, false, refl, ap, sym, ◌∙◌, subst, arith}
use Rattle.std.specs.Prelude.{if◌then◌else◌}
use Rattle.std.specs.declared.cmp.Ordering.{Ordering}
use Rattle.std.specs.declared.cmp.Ordering.TheVariants.{Less}
use Rattle.std.specs.Ordering.{eq_by_cmp, nat_cmp}
use Rattle.std.specs.Cmp.{nat_cmp_total}
use Rattle.std.specs.List.{All, AllByRecursion, filter}
use Rattle.std.specs.List.Sorted.{IsStrictlySortedBy}
use Rattle.std.specs.Map.{keys_of}
use Rattle.std.specs.FinMap as maps
use Rattle.std.specs.FinMap.{find, get-from_entries, get-insert, get-remove, same_map, nat_cmp-IsAntisymmetric}
use Rattle.std.proofs.lemmas.Bool.Decides.{nat_tests}
use Rattle.std.proofs.lemmas.Grind.{common_steps}
use Rattle.std.proofs.lemmas.List.{set-get_or, set_split}
use Rattle.std.proofs.lemmas.List.Elements.{recursion_from_All}
use Rattle.std.proofs.lemmas.List.Kept.{IsStrictlySortedBy-filter}
use Rattle.itch_table.specs.declared.order.Order.{Order}
use Rattle.itch_table.specs.declared.order.OrderRow.{OrderRow}
use Rattle.itch_table.specs.World.{order_under}
use Rattle.itch_table.proofs.MapViews.{ordered_entries}
use Rattle.order_book.specs.declared.rising.RisenRow.{RisenRow}
use Rattle.order_book.specs.Orders.{added, orders_in, reduced_by}
use Rattle.order_book.specs.Parts.{AreRising, IsBelow, IsLiveAt, entry_of, has_shares, live_in, order_at, without_distance}
use Rattle.order_book.proofs.InOrder.{IsSplit, all_joined, all_weaker, sorted_with, split_at}

-- the order of distances
abbrev pub by_distance : RisenRow → RisenRow → Ordering
by_distance row other = nat_cmp row.distance other.distance

-- the row of an order that lives
abbrev row_if : RisenRow → Option OrderRow
row_if row = if row.shares == 0 then None else Some (without_distance row)

abbrev pub entries_of : ℕ → List RisenRow → List (ℕ × OrderRow)
entries_of first rows = map (λ row. entry_of (order_at first row)) (filter has_shares rows)

-- an order has another reference
abbrev pub IsOther : ℕ → ℕ → RisenRow → Type 0
IsOther first reference row = eq_by_cmp nat_cmp reference (first + row.distance) ≡ false

pub find_none : (first q : ℕ) (rows : List RisenRow) → AllByRecursion (IsOther first q) rows → find nat_cmp q (entries_of first rows) ≡ None
find_none first q [] apart = refl
find_none first q (row ∷ rows) apart = grind (arith, common_steps, nat_tests, apart.0, find_none first q rows apart.1)

-- one order more is found under its reference, where it lives
find_with : (first : ℕ) (front : List RisenRow) (row : RisenRow) (back : List RisenRow) (q : ℕ)
    → find nat_cmp (first + row.distance) (entries_of first (front ++ back)) ≡ None
    → find nat_cmp q (entries_of first (front ++ row ∷ back))
    ≡ cond (eq_by_cmp nat_cmp q (first + row.distance)) (row_if row) (find nat_cmp q (entries_of first (front ++ back)))
find_with first [] row back q none = grind (arith, common_steps, nat_tests)
find_with first (other ∷ front) row back q none = grind (arith, common_steps, nat_tests, find_with first front row back q)

below_apart : (first distance other : ℕ) → nat_cmp other distance ≡ Less → eq_by_cmp nat_cmp (first + distance) (first + other) ≡ false
below_apart first distance other less = grind (arith, nat_tests)

above_apart : (first distance other : ℕ) → nat_cmp distance other ≡ Less → eq_by_cmp nat_cmp (first + distance) (first + other) ≡ false
above_apart first distance other less = grind (arith, nat_tests)

module _ (first : ℕ) (front : List RisenRow) (row : RisenRow) (back : List RisenRow) (split : IsSplit by_distance front row back) where
  none_at : find nat_cmp (first + row.distance) (entries_of first (front ++ back)) ≡ None
  none_at =
      find_none first (first + row.distance) (front ++ back) (all_joined _ front back
      (all_weaker _ _ (λ other less. below_apart first row.distance other.distance less) front split.below)
      (all_weaker _ _ (λ other less. above_apart first row.distance other.distance less) back split.above))

  get_with : (q : ℕ) → maps.get (live_in first (front ++ row ∷ back)) q
      ≡ cond (eq_by_cmp nat_cmp q (first + row.distance)) (row_if row) (maps.get (live_in first (front ++ back)) q)
  get_with q =
      get-from_entries nat_cmp_total (entries_of first (front ++ row ∷ back)) q ∙ find_with first front row back q none_at
      ∙ ap (cond (eq_by_cmp nat_cmp q (first + row.distance)) (row_if row)) (sym (get-from_entries nat_cmp_total (entries_of first (front ++ back)) q))

-- ---- an order of the list

module _ (first : ℕ) (rows : List RisenRow) (index : ℕ) (row : RisenRow) (rising : AreRising rows) (within : index < length rows)
    (is : row ≡ get_or rows index row) where
  abbrev front : List RisenRow
  front = take index rows

  abbrev back : List RisenRow
  back = drop (suc index) rows

  whole : rows ≡ front ++ row ∷ back
  whole = sym (set-get_or rows index row) ∙ ap (λ (r : RisenRow). set rows index r) (sym is) ∙ set_split rows index row within

  split : IsSplit by_distance front row back
  split = split_at by_distance row back front (subst AreRising whole rising)

  get_whole : (q : ℕ) → maps.get (live_in first rows) q
      ≡ cond (eq_by_cmp nat_cmp q (first + row.distance)) (row_if row) (maps.get (live_in first (front ++ back)) q)
  get_whole q = ap (λ (rs : List RisenRow). maps.get (live_in first rs) q) whole ∙ get_with first front row back split q

  row_found : maps.get (live_in first rows) (first + row.distance) ≡ row_if row
  row_found = grind (arith, common_steps, nat_tests, get_whole (first + row.distance))

  lives : 0 < row.shares → maps.get (live_in first rows) (first + row.distance) ≡ Some (without_distance row)
  lives some = grind (arith, common_steps, nat_tests, row_found)

  pub gone : has_shares row ≡ false → maps.get (live_in first rows) (first + row.distance) ≡ None
  gone none = grind (arith, common_steps, nat_tests, row_found)

  module _ (shares : ℕ) where
    abbrev other : RisenRow
    other = record row { shares = shares }

    other_split : IsSplit by_distance front other back
    other_split = record { sorted = split.sorted; below = split.below; above = split.above }

    rising-set : AreRising (set rows index other)
    rising-set =
        subst AreRising (sym (set_split rows index other within)) (sorted_with by_distance other back front other_split)

    get_set : (q : ℕ) → maps.get (live_in first (set rows index other)) q
        ≡ cond (eq_by_cmp nat_cmp q (first + row.distance)) (row_if other) (maps.get (live_in first rows) q)
    get_set q =
        let was = get_whole q in
        let now = ap (λ (rs : List RisenRow). maps.get (live_in first rs) q) (set_split rows index other within) ∙ get_with first front other back other_split q in
        grind (arith, common_steps, was, now)

  set_none : live_in first (set rows index (record row { shares = 0 })) ≡ maps.remove (live_in first rows) (first + row.distance)
  set_none = same_map nat_cmp_total nat_cmp-IsAntisymmetric _ _ (λ q.
      grind (arith, common_steps, get_set 0 q, get-remove nat_cmp_total (live_in first rows) (first + row.distance) q))

  set_some : (shares : ℕ) → (shares ≡ 0 → ⊥) → live_in first (set rows index (record row { shares = shares }))
      ≡ maps.insert (live_in first rows) (first + row.distance) (record (without_distance row) { shares = shares })
  set_some shares some = same_map nat_cmp_total nat_cmp-IsAntisymmetric _ _ (λ q.
      grind (arith, common_steps, nat_tests, get_set shares q, get-insert nat_cmp_total (live_in first rows) (first + row.distance) (record (without_distance row) { shares = shares }) q))

-- ---- the order that lives under a reference

module _ (first : ℕ) (rows : List RisenRow) (index reference : ℕ) (row : RisenRow) (rising : AreRising rows)
    (at : IsLiveAt first rows reference index) (is : row ≡ get_or rows index row) where
  same : first + row.distance ≡ reference
  same = ap (λ (r : RisenRow). first + r.distance) is ∙ (at.1 row).0

  some : 0 < row.shares
  some = subst (λ (r : RisenRow). 0 < r.shares) (sym is) (at.1 row).1

  pub found : maps.get (live_in first rows) reference ≡ Some (without_distance row)
  found = ap (maps.get (live_in first rows)) (sym same) ∙ lives first rows index row rising at.0 is some

  pub still_rising : (shares : ℕ) → AreRising (set rows index (record row { shares = shares }))
  still_rising = rising-set first rows index row rising at.0 is

  pub removed : live_in first (set rows index (record row { shares = 0 })) ≡ maps.remove (live_in first rows) reference
  removed = set_none first rows index row rising at.0 is ∙ ap (maps.remove (live_in first rows)) same

  pub lowered : (shares : ℕ) → shares ≤ row.shares
      → live_in first (set rows index (record row { shares = row.shares - shares })) ≡ reduced_by (live_in first rows) reference (without_distance row) shares
  lowered shares enough = by_test (row.shares == shares) refl
    where
      left : OrderRow
      left = record (without_distance row) { shares = row.shares - shares }

      by_test : (b : Bool) → (row.shares == shares) ≡ b → live_in first (set rows index (record row { shares = row.shares - shares }))
          ≡ (if b then maps.remove (live_in first rows) reference else maps.insert (live_in first rows) reference left)
      by_test true whole =
          let none : row.shares - shares ≡ 0 = grind (arith, nat_tests) in
          ap (λ n. live_in first (set rows index (record row { shares = n }))) none ∙ removed
      by_test false part =
          let more : row.shares - shares ≡ 0 → ⊥ = grind (arith, nat_tests) in
          set_some first rows index row rising at.0 is (row.shares - shares) more ∙ ap (λ r. maps.insert (live_in first rows) r left) same

-- ---- orders that have gone are dropped

pub rising_swept : (rows : List RisenRow) → AreRising rows → AreRising (filter has_shares rows)
rising_swept rows rising = IsStrictlySortedBy-filter by_distance has_shares rows rising

swept_again : (rows : List RisenRow) → filter has_shares (filter has_shares rows) ≡ filter has_shares rows
swept_again [] = refl
swept_again (row ∷ rows) = grind (arith, common_steps, swept_again rows)

pub live_swept : (first : ℕ) (rows : List RisenRow) → live_in first (filter has_shares rows) ≡ live_in first rows
live_swept first rows = ap (λ (rs : List RisenRow). maps.from_entries (map (λ row. entry_of (order_at first row)) rs)) (swept_again rows)

-- ---- an order more at the end

module _ (first : ℕ) (rows : List RisenRow) (row : RisenRow) (rising : AreRising rows) (below : All (IsBelow row.distance) rows) where
  lower : (other : RisenRow) → IsBelow row.distance other → by_distance other row ≡ Less
  lower other less = grind (arith, nat_tests)

  last_split : IsSplit by_distance rows row []
  last_split = record { sorted = subst AreRising (sym (append-nil rows)) rising; below = all_weaker _ _ lower rows (recursion_from_All _ rows below); above = tt }

  pub rising_pushed : AreRising (rows ++ row ∷ [])
  rising_pushed = sorted_with by_distance row [] rows last_split

  pub pushed : 1 ≤ row.shares → live_in first (rows ++ row ∷ []) ≡ added (live_in first rows) (order_at first row)
  pushed some = same_map nat_cmp_total nat_cmp-IsAntisymmetric _ _ (λ q.
      let was = ap (λ (rs : List RisenRow). maps.get (live_in first rs) q) (append-nil rows) in
      grind (arith, common_steps, nat_tests, was, get_with first rows row [] last_split q, get-insert nat_cmp_total (live_in first rows) (first + row.distance) (without_distance row) q))

-- ---- the orders as a list

references_above : (first distance : ℕ) (rows : List RisenRow) → AllByRecursion (λ row. nat_cmp distance row.distance ≡ Less) rows
    → AllByRecursion (λ other. nat_cmp (first + distance) other ≡ Less) (keys_of (map (λ row. entry_of (order_at first row)) rows))
references_above first distance [] all = tt
references_above first distance (row ∷ rows) all = (higher first distance row.distance all.0, references_above first distance rows all.1)
  where
    higher : (first m n : ℕ) → nat_cmp m n ≡ Less → nat_cmp (first + m) (first + n) ≡ Less
    higher first m n less = grind (arith, nat_tests)

rising_keys : (first : ℕ) (rows : List RisenRow) → AreRising rows
    → IsStrictlySortedBy nat_cmp (keys_of (map (λ row. entry_of (order_at first row)) rows))
unfolding IsStrictlySortedBy
rising_keys first [] rising = tt
rising_keys first (row ∷ rows) rising = (references_above first row.distance rows rising.0, rising_keys first rows rising.1)

same_orders : (first : ℕ) (rows : List RisenRow)
    → map (λ (e : ℕ × OrderRow). order_under e.0 e.1) (map (λ row. entry_of (order_at first row)) rows) ≡ map (order_at first) rows
same_orders first [] = refl
same_orders first (row ∷ rows) = ap (λ (rest : List Order). order_at first row ∷ rest) (same_orders first rows)

pub listed : (first : ℕ) (rows : List RisenRow) → AreRising rows → orders_in (live_in first rows) ≡ map (order_at first) (filter has_shares rows)
listed first rows rising =
    let keys = rising_keys first (filter has_shares rows) (rising_swept rows rising) in
    ap (map (λ (e : ℕ × OrderRow). order_under e.0 e.1)) (ordered_entries nat_cmp_total nat_cmp-IsAntisymmetric _ keys)
    ∙ same_orders first (filter has_shares rows)
