-- The levels of a side after one change of the orders, from the shares at each price.
use Rattle.std.proofs.Common.{◌≡◌, ℕ, ◌+◌, ◌-◌, ◌==◌, List, Bool, true, false, cond, ap, sym, ◌∙◌, arith}
use Rattle.std.specs.Prelude.{if◌then◌else◌}
use Rattle.std.specs.Ordering.{eq_by_cmp, nat_cmp}
use Rattle.std.specs.Cmp.{nat_cmp_total}
use Rattle.std.specs.Option.{unwrap_or}
use Rattle.std.specs.FinMap.{get, get-insert, get-remove, same_map, nat_cmp-IsAntisymmetric}
use Rattle.std.proofs.lemmas.Bool.Decides.{nat_tests}
use Rattle.std.proofs.lemmas.Grind.{common_steps}
use Rattle.itch_table.specs.Levels.{level_map, positive, shares_at}
use Rattle.itch_table.specs.declared.order.Order.{Order}
use Rattle.itch_table.specs.declared.order.Side.{Side}
use Rattle.itch_table.proofs.LevelSums.{get_level_map}
use Rattle.order_book.specs.Kept.{LevelMap, lowered, raised, shares_on, with_shares}

unwrap_positive : (n : ℕ) → unwrap_or (positive n) 0 ≡ n
unwrap_positive n = grind (arith, nat_tests)

-- the shares at a price in the levels of a side are those of the orders
pub shares_of_levels : (orders : List Order) (side : Side) (price : ℕ) → shares_on (level_map orders side) price ≡ shares_at orders side price
shares_of_levels orders side price =
    ap (λ o. unwrap_or o 0) (get_level_map orders side price) ∙ unwrap_positive (shares_at orders side price)

module _ (old new : List Order) (side : Side) (price shares : ℕ) where
  get-with_shares : (levels : LevelMap) (n q : ℕ) → get (with_shares levels price n) q ≡ cond (eq_by_cmp nat_cmp q price) (positive n) (get levels q)
  get-with_shares levels n q = grind (arith, common_steps, nat_tests, get-insert nat_cmp_total levels price n q, get-remove nat_cmp_total levels price q)

  raised_at : (q all : ℕ) → all ≡ (if price == q then shares else 0) + shares_at old side q
      → positive all ≡ cond (eq_by_cmp nat_cmp q price) (positive (shares_at old side price + shares)) (positive (shares_at old side q))
  raised_at q all more = grind (arith, common_steps, nat_tests)

  levels_raised : ((q : ℕ) → shares_at new side q ≡ (if price == q then shares else 0) + shares_at old side q)
      → level_map new side ≡ raised (level_map old side) price shares
  levels_raised more = same_map nat_cmp_total nat_cmp-IsAntisymmetric _ _ (λ q.
      grind (
        arith,
        common_steps,
        get_level_map new side q,
        get_level_map old side q,
        shares_of_levels old side price,
        raised_at q (shares_at new side q) (more q),
        get-with_shares (level_map old side) (shares_on (level_map old side) price + shares) q,
      ))

  lowered_at : (q all : ℕ) → (if price == q then shares else 0) + all ≡ shares_at old side q
      → positive all ≡ cond (eq_by_cmp nat_cmp q price) (positive (shares_at old side price - shares)) (positive (shares_at old side q))
  lowered_at q all less = grind (arith, common_steps, nat_tests)

  levels_lowered : ((q : ℕ) → (if price == q then shares else 0) + shares_at new side q ≡ shares_at old side q)
      → level_map new side ≡ lowered (level_map old side) price shares
  levels_lowered less = same_map nat_cmp_total nat_cmp-IsAntisymmetric _ _ (λ q.
      get_level_map new side q ∙ lowered_at q (shares_at new side q) (less q)
      ∙ ap (λ n. cond (eq_by_cmp nat_cmp q price) (positive (n - shares)) (positive (shares_at old side q))) (sym (shares_of_levels old side price))
      ∙ ap (cond (eq_by_cmp nat_cmp q price) _) (sym (get_level_map old side q))
      ∙ sym (get-with_shares (level_map old side) (shares_on (level_map old side) price - shares) q))

  levels_same : ((q : ℕ) → shares_at new side q ≡ shares_at old side q) → level_map new side ≡ level_map old side
  levels_same same = same_map nat_cmp_total nat_cmp-IsAntisymmetric _ _ (λ q.
      get_level_map new side q ∙ ap positive (same q) ∙ sym (get_level_map old side q))

-- ---- the levels of a side, which may be the other one

-- what shares at a price add to the level at q
abbrev pub share_if : Bool → ℕ → ℕ → ℕ → ℕ
share_if same price shares q = if same then (if price == q then shares else 0) else 0

pub raised_if : (same : Bool) (old new : List Order) (side : Side) (price shares : ℕ)
    → ((q : ℕ) → shares_at new side q ≡ share_if same price shares q + shares_at old side q)
    → level_map new side ≡ (if same then raised (level_map old side) price shares else level_map old side)
raised_if true old new side price shares more = levels_raised old new side price shares more
raised_if false old new side price shares more = levels_same old new side price shares (λ q. omega (arith, more q))

pub lowered_if : (same : Bool) (old new : List Order) (side : Side) (price shares : ℕ)
    → ((q : ℕ) → share_if same price shares q + shares_at new side q ≡ shares_at old side q)
    → level_map new side ≡ (if same then lowered (level_map old side) price shares else level_map old side)
lowered_if true old new side price shares less = levels_lowered old new side price shares less
lowered_if false old new side price shares less = levels_same old new side price shares (λ q. omega (arith, less q))
