-- A side's levels in a list, as they are shown.
use Rattle.std.proofs.Common.{◌≡◌, ℕ, ◌-◌, List, [], ◌∷◌, get_or, length, map, reverse, append-nil, refl, ap, sym, ◌∙◌, subst, arith}
use Rattle.std.specs.declared.cmp.Ordering.TheVariants.{Less}
use Rattle.std.specs.Ordering.{nat_cmp}
use Rattle.std.specs.Cmp.{nat_cmp_total}
use Rattle.std.specs.Option.{unwrap_or}
use Rattle.std.specs.List.{AllByRecursion, slice_get}
use Rattle.std.specs.List.Sorted.{IsStrictlySortedBy}
use Rattle.std.specs.FinMap as maps
use Rattle.std.specs.FinMap.{nat_cmp-IsAntisymmetric}
use Rattle.std.proofs.lemmas.List.{reverse-append, get_or-reverse}
use Rattle.std.proofs.lemmas.List.Elements.{All-from_recursion, recursion_from_All}
use Rattle.std.proofs.lemmas.List.Sorted.{All-permutation, IsPermutation-reverse}
use Rattle.std.proofs.lemmas.Option.{unwrap_or-slice_get}
use Rattle.itch_table.specs.Levels.{first_level, level_of, no_level}
use Rattle.itch_table.specs.declared.order.Level.{Level}
use Rattle.itch_table.specs.declared.order.Side.{Side}
use Rattle.itch_table.specs.declared.order.Side.TheVariants.{Buy, Sell}
use Rattle.itch_table.proofs.MapViews.{ordered_entries}
use Rattle.order_book.specs.Kept.{AreInOrder, LevelMap, by_price, shown}
use Rattle.order_book.proofs.InOrder.{IsSplit, sorted_with}
use Rattle.order_book.proofs.LevelLists.{by_price-with, side_cmp}

-- ---- rising prices

same_levels : (levels : List Level) → map level_of (map (λ level. (level.price, level.shares)) levels) ≡ levels
same_levels [] = refl
same_levels (level ∷ levels) = ap (λ (rest : List Level). level ∷ rest) (same_levels levels)

above_all : (price : ℕ) (levels : List Level) → AllByRecursion (λ level. nat_cmp price level.price ≡ Less) levels
    → AllByRecursion (λ other. nat_cmp price other ≡ Less) (map (λ (e : ℕ × ℕ). e.0) (map (λ (level : Level). (level.price, level.shares)) levels))
above_all price [] all = tt
above_all price (level ∷ levels) all = (all.0, above_all price levels all.1)

sorted_prices : (levels : List Level) → AreInOrder Buy levels
    → IsStrictlySortedBy nat_cmp (map (λ (e : ℕ × ℕ). e.0) (map (λ (level : Level). (level.price, level.shares)) levels))
unfolding IsStrictlySortedBy
sorted_prices [] sorted = tt
sorted_prices (level ∷ levels) sorted = (above_all level.price levels sorted.0, sorted_prices levels sorted.1)

rising : (levels : List Level) → AreInOrder Buy levels → map level_of (maps.entries (by_price levels)) ≡ levels
rising levels sorted =
    ap (map level_of) (ordered_entries nat_cmp_total nat_cmp-IsAntisymmetric _ (sorted_prices levels sorted)) ∙ same_levels levels

-- ---- falling prices

all_reversed : {X : Type 0} (P : X → Type 0) (xs : List X) → AllByRecursion P xs → AllByRecursion P (reverse xs)
all_reversed P xs all =
    recursion_from_All P (reverse xs) (All-permutation P xs (reverse xs) (IsPermutation-reverse xs) (All-from_recursion P xs all))

reversed_split : (level : Level) (levels : List Level) → AllByRecursion (λ other. nat_cmp other.price level.price ≡ Less) levels
    → AreInOrder Buy (reverse levels) → IsSplit (side_cmp Buy) (reverse levels) level []
reversed_split level levels below sorted = record {
  sorted = subst (AreInOrder Buy) (sym (append-nil (reverse levels))) sorted;
  below = all_reversed _ levels below;
  above = tt;
}

in_order-reverse : (levels : List Level) → AreInOrder Sell levels → AreInOrder Buy (reverse levels)
unfolding IsStrictlySortedBy
in_order-reverse [] sorted = tt
in_order-reverse (level ∷ levels) sorted =
    subst (AreInOrder Buy) (sym (reverse-append (level ∷ []) levels)) (
    sorted_with (side_cmp Buy) level [] (reverse levels) (reversed_split level levels sorted.0 (in_order-reverse levels sorted.1))
    )

by_price-reverse : (levels : List Level) → AreInOrder Sell levels → by_price (reverse levels) ≡ by_price levels
unfolding IsStrictlySortedBy
by_price-reverse [] sorted = refl
by_price-reverse (level ∷ levels) sorted =
    ap by_price (reverse-append (level ∷ []) levels)
    ∙ by_price-with Buy (reverse levels) level [] (reversed_split level levels sorted.0 (in_order-reverse levels sorted.1))
    ∙ ap (λ (ls : List Level). maps.insert (by_price ls) level.price level.shares) (append-nil (reverse levels))
    ∙ ap (λ (m : LevelMap). maps.insert m level.price level.shares) (by_price-reverse levels sorted.1)

-- ---- either side

pub listed_is : (side : Side) (levels : List Level) → AreInOrder side levels → shown side (by_price levels) ≡ reverse levels
listed_is Buy levels sorted = ap reverse (rising levels sorted)
listed_is Sell levels sorted =
    ap (λ (m : LevelMap). map level_of (maps.entries m)) (sym (by_price-reverse levels sorted))
    ∙ rising (reverse levels) (in_order-reverse levels sorted)

first_is : (levels : List Level) → first_level levels ≡ get_or levels 0 no_level
first_is [] = refl
first_is (level ∷ levels) = refl

-- the last level of the list is the first that is shown
pub last_is_first : (levels : List Level) → unwrap_or (slice_get levels (length levels - 1)) no_level ≡ first_level (reverse levels)
last_is_first [] = refl
last_is_first (level ∷ levels) =
    let last : length (level ∷ levels) - 1 ≡ length (level ∷ levels) - 1 - 0 = omega arith in
    unwrap_or-slice_get (level ∷ levels) (length (level ∷ levels) - 1) no_level
    ∙ ap (λ n. get_or (level ∷ levels) n no_level) last
    ∙ sym (first_is (reverse (level ∷ levels)) ∙ get_or-reverse (level ∷ levels) 0 no_level (omega arith))
