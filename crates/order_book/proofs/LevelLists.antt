-- A side's levels in a list, and the same by their prices, before and after an edit of the list.
use Rattle.std.proofs.Common.{◌≡◌, ℕ, suc, ◌+◌, ◌-◌, ◌≤◌, ◌==◌, List, [], ◌∷◌, ◌++◌, take, drop, set, get_or, length, map, None, Some, cond, true, false, refl, ap, sym, ◌∙◌, subst, arith}
use Rattle.std.specs.declared.cmp.Ordering.{Ordering}
use Rattle.std.specs.declared.cmp.Ordering.TheVariants.{Less, Equal}
use Rattle.std.specs.Ordering.{eq_by_cmp, is_lt, nat_cmp, ordering_index, ordering_reverse}
use Rattle.std.specs.Cmp.{IsTotalOrder, nat_cmp_total}
use Rattle.std.specs.Option.{unwrap_or}
use Rattle.std.specs.List.{AllByRecursion, insert, remove}
use Rattle.std.specs.List.Sorted.{IsBinarySearchResult, IsNonDecreasingBy, IsSearchInRange}
use Rattle.std.specs.Result.{IfErr, IfOk}
use Rattle.std.specs.declared.result.Result.{Result}
use Rattle.std.specs.declared.result.Result.TheVariants.{Ok, Err}
use Rattle.std.specs.FinMap as maps
use Rattle.std.specs.FinMap.{find, get-from_entries, get-insert, same_map, nat_cmp-IsAntisymmetric}
use Rattle.std.proofs.lemmas.Bool.Decides.{nat_tests}
use Rattle.std.proofs.lemmas.Cmp.{back_total}
use Rattle.std.proofs.lemmas.Grind.{common_steps}
use Rattle.std.proofs.lemmas.List.{set-get_or, set_split, take-append-drop}
use Rattle.std.proofs.lemmas.List.Sorted.{searchable_from_sorted}
use Rattle.std.proofs.lemmas.Map.Keys.{Less-from_sorted}
use Rattle.itch_table.specs.declared.order.Level.{Level}
use Rattle.itch_table.specs.declared.order.Side.{Side}
use Rattle.itch_table.specs.declared.order.Side.TheVariants.{Buy, Sell}
use Rattle.order_book.specs.Kept.{AreInOrder, IsBetter, IsFound, IsGap, IsWorse, LevelMap, by_price, lowered, price_cmp, raised, shares_on, with_shares}
use Rattle.order_book.proofs.InOrder.{IsSplit, all_before, all_from, all_joined, all_weaker, sorted_with, split_at}
use Rattle.order_book.proofs.Maps.{get_inserted, insert_again, remove_absent, remove_inserted}

-- the order of a side's levels
abbrev pub side_cmp : Side → Level → Level → Ordering
side_cmp side level other = price_cmp side level.price other.price

pub price_total : (side : Side) → IsTotalOrder (price_cmp side)
price_total Buy = nat_cmp_total
price_total Sell = back_total nat_cmp_total

-- what a search for a price requires of the levels
searchable : (side : Side) (levels : List Level) (price : ℕ) → AreInOrder side levels
    → IsNonDecreasingBy (λ level. ordering_index (price_cmp side level.price price)) levels
searchable side levels price sorted =
    searchable_from_sorted (price_total side) (λ level. level.price) levels price (λ k d low within.
    ap is_lt (
    (price_total side).antisymm (get_or levels (k + 1) d).price (get_or levels k d).price
    ∙ ap ordering_reverse (Less-from_sorted (side_cmp side) levels k (k + 1) d sorted (omega arith) within)
    ))

price_tied : (side : Side) (price other : ℕ) → price_cmp side price other ≡ Equal → price ≡ other
price_tied Buy price other tied = nat_cmp-IsAntisymmetric price other tied
price_tied Sell price other tied = sym (nat_cmp-IsAntisymmetric other price tied)

-- what a search for a price returns
module _ (side : Side) (levels : List Level) (price : ℕ) where
  pub found_by_search : (r : Result ℕ ℕ) → IsSearchInRange r (length levels)
      → IsBinarySearchResult (λ level. price_cmp side level.price price) levels r → IfOk r (IsFound levels price)
  found_by_search (Ok index) within at = (within, λ d. price_tied side (get_or levels index d).price price (at d))
  found_by_search (Err index) within at = tt

  pub gap_by_search : (r : Result ℕ ℕ) → AreInOrder side levels → IsSearchInRange r (length levels)
      → IsBinarySearchResult (λ level. price_cmp side level.price price) levels r → IfErr r (IsGap side levels price)
  gap_by_search (Ok index) sorted within at = tt
  gap_by_search (Err index) sorted within at = (within, at (searchable side levels price sorted))

-- ---- a price that no level has

worse_apart : (side : Side) (price other : ℕ) → price_cmp side price other ≡ Less → eq_by_cmp nat_cmp other price ≡ false
worse_apart Buy price other less = grind (arith, nat_tests)
worse_apart Sell price other less = grind (arith, nat_tests)

better_apart : (side : Side) (price other : ℕ) → price_cmp side price other ≡ Less → eq_by_cmp nat_cmp price other ≡ false
better_apart Buy price other less = grind (arith, nat_tests)
better_apart Sell price other less = grind (arith, nat_tests)

abbrev entries_of : List Level → List (ℕ × ℕ)
entries_of levels = map (λ level. (level.price, level.shares)) levels

find_none : (price : ℕ) (levels : List Level) → AllByRecursion (λ level. eq_by_cmp nat_cmp price level.price ≡ false) levels
    → find nat_cmp price (entries_of levels) ≡ None
find_none price [] apart = refl
find_none price (level ∷ levels) apart =
    ap (λ b. cond b (Some level.shares) (find nat_cmp price (entries_of levels))) apart.0 ∙ find_none price levels apart.1

-- one level more is found at its price
find_with : (front : List Level) (level : Level) (back : List Level) (q : ℕ)
    → find nat_cmp level.price (entries_of (front ++ back)) ≡ None
    → find nat_cmp q (entries_of (front ++ level ∷ back))
    ≡ cond (eq_by_cmp nat_cmp q level.price) (Some level.shares) (find nat_cmp q (entries_of (front ++ back)))
find_with [] level back q none = refl
find_with (other ∷ front) level back q none = grind (arith, common_steps, nat_tests, find_with front level back q)

module _ (side : Side) (front : List Level) (level : Level) (back : List Level) (split : IsSplit (side_cmp side) front level back) where
  none_at : find nat_cmp level.price (entries_of (front ++ back)) ≡ None
  none_at =
      find_none level.price (front ++ back) (all_joined _ front back
      (all_weaker _ _ (λ other less. worse_apart side other.price level.price less) front split.below)
      (all_weaker _ _ (λ other less. better_apart side level.price other.price less) back split.above))

  pub absent_without : maps.get (by_price (front ++ back)) level.price ≡ None
  absent_without = get-from_entries nat_cmp_total (entries_of (front ++ back)) level.price ∙ none_at

  pub by_price-with : by_price (front ++ level ∷ back) ≡ maps.insert (by_price (front ++ back)) level.price level.shares
  by_price-with = same_map nat_cmp_total nat_cmp-IsAntisymmetric _ _ (λ q.
      get-from_entries nat_cmp_total (entries_of (front ++ level ∷ back)) q ∙ find_with front level back q none_at
      ∙ ap (cond (eq_by_cmp nat_cmp q level.price) (Some level.shares)) (sym (get-from_entries nat_cmp_total (entries_of (front ++ back)) q))
      ∙ sym (get-insert nat_cmp_total (by_price (front ++ back)) level.price level.shares q))

-- ---- shares at a price

with_none : (levels : LevelMap) (price shares : ℕ) → shares ≡ 0 → with_shares levels price shares ≡ maps.remove levels price
with_none levels price shares none =
    let is : (shares == 0) ≡ true = grind (arith, nat_tests) in
    ap (λ b. cond b (maps.remove levels price) (maps.insert levels price shares)) is

with_some : (levels : LevelMap) (price shares : ℕ) → (shares ≡ 0 → ⊥) → with_shares levels price shares ≡ maps.insert levels price shares
with_some levels price shares some =
    let is : (shares == 0) ≡ false = grind (arith, nat_tests) in
    ap (λ b. cond b (maps.remove levels price) (maps.insert levels price shares)) is

-- ---- the level that a search found

module _ (side : Side) (levels : List Level) (price index : ℕ) (level : Level) (sorted : AreInOrder side levels) (found : IsFound levels price index)
    (is : level ≡ get_or levels index level) where
  abbrev front : List Level
  front = take index levels

  abbrev back : List Level
  back = drop (suc index) levels

  whole : levels ≡ front ++ level ∷ back
  whole = sym (set-get_or levels index level) ∙ ap (λ (l : Level). set levels index l) (sym is) ∙ set_split levels index level found.0

  split : IsSplit (side_cmp side) front level back
  split = split_at (side_cmp side) level back front (subst (AreInOrder side) whole sorted)

  at_price : level.price ≡ price
  at_price = ap (λ (l : Level). l.price) is ∙ found.1 level

  map_whole : by_price levels ≡ maps.insert (by_price (front ++ back)) level.price level.shares
  map_whole = ap by_price whole ∙ by_price-with side front level back split

  pub shares_found : shares_on (by_price levels) price ≡ level.shares
  shares_found =
      ap (shares_on (by_price levels)) (sym at_price) ∙ ap (λ (m : LevelMap). shares_on m level.price) map_whole
      ∙ ap (λ o. unwrap_or o 0) (get_inserted nat_cmp_total (by_price (front ++ back)) level.price level.shares)

  module _ (shares : ℕ) where
    abbrev other : Level
    other = record { price = level.price; shares = shares }

    other_split : IsSplit (side_cmp side) front other back
    other_split = record { sorted = split.sorted; below = split.below; above = split.above }

    pub in_order-set : AreInOrder side (set levels index other)
    in_order-set =
        subst (AreInOrder side) (sym (set_split levels index other found.0)) (sorted_with (side_cmp side) other back front other_split)

    by_price-set : by_price (set levels index other) ≡ maps.insert (by_price levels) price shares
    by_price-set =
        ap by_price (set_split levels index other found.0) ∙ by_price-with side front other back other_split
        ∙ sym (insert_again nat_cmp_total nat_cmp-IsAntisymmetric (by_price (front ++ back)) level.price level.shares shares)
        ∙ ap (λ (m : LevelMap). maps.insert m level.price shares) (sym map_whole)
        ∙ ap (λ p. maps.insert (by_price levels) p shares) at_price

  pub in_order-remove : AreInOrder side (remove levels index)
  in_order-remove = split.sorted

  by_price-remove : by_price (remove levels index) ≡ maps.remove (by_price levels) price
  by_price-remove =
      sym (remove_inserted nat_cmp_total nat_cmp-IsAntisymmetric (by_price (front ++ back)) level.price level.shares (absent_without side front level back split))
      ∙ ap (λ (m : LevelMap). maps.remove m level.price) (sym map_whole) ∙ ap (maps.remove (by_price levels)) at_price

  module _ (shares : ℕ) where
    pub found_raised : 1 ≤ shares → by_price (set levels index (record { price = level.price; shares = level.shares + shares })) ≡ raised (by_price levels) price shares
    found_raised some =
        by_price-set (level.shares + shares) ∙ ap (λ n. maps.insert (by_price levels) price (n + shares)) (sym shares_found)
        ∙ sym (with_some (by_price levels) price (shares_on (by_price levels) price + shares) (λ none. omega arith))

    lowered_is : lowered (by_price levels) price shares ≡ with_shares (by_price levels) price (level.shares - shares)
    lowered_is = ap (λ n. with_shares (by_price levels) price (n - shares)) shares_found

    pub found_gone : level.shares - shares ≡ 0 → by_price (remove levels index) ≡ lowered (by_price levels) price shares
    found_gone none = by_price-remove ∙ sym (lowered_is ∙ with_none (by_price levels) price (level.shares - shares) none)

    pub found_lowered : (level.shares - shares ≡ 0 → ⊥)
        → by_price (set levels index (record { price = level.price; shares = level.shares - shares })) ≡ lowered (by_price levels) price shares
    found_lowered some =
        by_price-set (level.shares - shares) ∙ sym (lowered_is ∙ with_some (by_price levels) price (level.shares - shares) some)

-- ---- a gap between levels

module _ (side : Side) (levels : List Level) (price index : ℕ) (sorted : AreInOrder side levels) (gap : IsGap side levels price index) where
  joined : take index levels ++ drop index levels ≡ levels
  joined = take-append-drop index levels

  gap_split : (shares : ℕ) → IsSplit (side_cmp side) (take index levels) (record { price = price; shares = shares }) (drop index levels)
  gap_split shares = record {
    sorted = subst (AreInOrder side) (sym joined) sorted;
    below = all_before (IsWorse side price) levels index gap.1.0;
    above =
        all_weaker (IsBetter side price) (λ level. price_cmp side price level.price ≡ Less)
        (λ level better. (price_total side).antisymm price level.price ∙ ap ordering_reverse better) (drop index levels)
        (all_from (IsBetter side price) levels index gap.1.1);
  }

  none_there : maps.get (by_price levels) price ≡ None
  none_there =
      ap (λ (ls : List Level). maps.get (by_price ls) price) (sym joined)
      ∙ absent_without side (take index levels) (record { price = price; shares = 0 }) (drop index levels) (gap_split 0)

  pub shares_missing : shares_on (by_price levels) price ≡ 0
  shares_missing = ap (λ o. unwrap_or o 0) none_there

  module _ (shares : ℕ) where
    pub in_order-insert : AreInOrder side (insert levels index (record { price = price; shares = shares }))
    in_order-insert = sorted_with (side_cmp side) _ (drop index levels) (take index levels) (gap_split shares)

    pub missing_raised : 1 ≤ shares → by_price (insert levels index (record { price = price; shares = shares })) ≡ raised (by_price levels) price shares
    missing_raised some =
        by_price-with side (take index levels) (record { price = price; shares = shares }) (drop index levels) (gap_split shares)
        ∙ ap (λ (ls : List Level). maps.insert (by_price ls) price shares) joined
        ∙ ap (maps.insert (by_price levels) price) (omega (arith, shares_missing))
        ∙ sym (with_some (by_price levels) price (shares_on (by_price levels) price + shares) (λ none. omega arith))

    pub missing_lowered : shares ≤ shares_on (by_price levels) price → by_price levels ≡ lowered (by_price levels) price shares
    missing_lowered enough =
        sym (
        with_none (by_price levels) price (shares_on (by_price levels) price - shares) (omega (arith, shares_missing))
        ∙ remove_absent nat_cmp_total nat_cmp-IsAntisymmetric (by_price levels) price none_there
        )
