-- The index of a price among levels that are looked at one by one, the best first.
use Rattle.std.proofs.Common.{◌≡◌, ◌≢◌, ℕ, ◌-◌, ◌^◌, ◌<◌, ◌≤◌, ◌==◌, List, Bool, true, false, refl, length, get_or, arith, inl, inr}
use Rattle.std.specs.declared.cmp.Ordering.TheVariants.{Less, Greater}
use Rattle.std.specs.List.{AllWithin}
use Rattle.std.proofs.lemmas.Bool.{cases_lt, eqb-true, eqb-false}
use Rattle.std.proofs.lemmas.Bool.Decides.{nat_tests}
use Rattle.std.proofs.lemmas.List.{get_or_default}
use Rattle.std.proofs.lemmas.Map.Keys.{Less-from_sorted}
use Rattle.itch_table.specs.declared.order.Level.{Level}
use Rattle.itch_table.specs.declared.order.Side.{Side}
use Rattle.itch_table.specs.declared.order.Side.TheVariants.{Buy, Sell}
use Rattle.order_book.specs.Kept.{AreInOrder, IsBetter, IsGap, IsWorse, price_cmp, rank}
use Rattle.order_book.proofs.LevelLists.{price_total, side_cmp}

-- a price of a lower rank is worse
pub worse_by_rank : (side : Side) (price other : ℕ) → rank side other < rank side price → price_cmp side other price ≡ Less
worse_by_rank Buy price other lower = grind (arith, nat_tests)
worse_by_rank Sell price other lower = grind (arith, nat_tests)

-- another price of no lower rank is better
pub better_by_rank : (side : Side) (price other : ℕ) → price < 2 ^ 32 → other < 2 ^ 32 → other ≢ price
    → rank side price ≤ rank side other → price_cmp side other price ≡ Greater
better_by_rank Buy price other fits other_fits apart higher = grind (arith, nat_tests)
better_by_rank Sell price other fits other_fits apart higher = grind (arith, nat_tests)

-- the levels from a better one on are better, where those after it are
pub better_from : (side : Side) (levels : List Level) (price end : ℕ) (last : Level) → 0 < end → end ≤ length levels
    → AllWithin (IsBetter side price) levels end (length levels) → price_cmp side (get_or levels (end - 1) last).price price ≡ Greater
    → AllWithin (IsBetter side price) levels (end - 1) (length levels)
better_from side levels price end last some within better greater k d low high = elim (cases_lt k end) [
  | inl before ↦
      let here : k ≡ end - 1 = omega (arith, low) in
      rw (here, get_or_default levels (end - 1) d last (omega arith)) greater
  | inr from ↦ better k d from high
]

-- the level before the better ones is worse, and so are those before it
pub gap_after : (side : Side) (levels : List Level) (price end : ℕ) (last : Level) → AreInOrder side levels → 0 < end → end ≤ length levels
    → AllWithin (IsBetter side price) levels end (length levels) → price_cmp side (get_or levels (end - 1) last).price price ≡ Less
    → IsGap side levels price end
gap_after side levels price end last sorted some within better less = (within, (worse, better))
  where
    worse : AllWithin (IsWorse side price) levels 0 end
    worse k d low high = by_place (k == end - 1) refl
      where
        less_last : price_cmp side (get_or levels (end - 1) d).price price ≡ Less
        less_last = rw (get_or_default levels (end - 1) d last (omega arith)) less

        by_place : (b : Bool) → (k == end - 1) ≡ b → IsWorse side price (get_or levels k d)
        by_place true same = rw (eqb-true k (end - 1) same) less_last
        by_place false apart =
            let before : k < end - 1 = omega (arith, eqb-false k (end - 1) apart) in
            (price_total side).trans _ _ _ (Less-from_sorted (side_cmp side) levels k (end - 1) d sorted before (omega arith)) less_last
