-- A stock without orders has no levels.
use Rattle.std.proofs.Common.{◌≡◌, ℕ, List, [], ◌∷◌, ◌++◌, codes, filter, length, map, refl, reverse, slice_index_or, sym, ap, ◌∙◌, arith}
use Rattle.std.specs.declared.cmp.Ordering.{Ordering}
use Rattle.std.specs.Ordering.{nat_cmp}
use Rattle.std.specs.FinMap as maps
use Rattle.std.specs.FinMap.{FinMap}
use Rattle.itch_table.specs.Levels.{level_map, level_of, levels, no_level}
use Rattle.itch_table.specs.World.{empty_world, is_under, key_cmp, order_of, orders_of}
use Rattle.itch_table.specs.declared.order.Order.{Order}
use Rattle.itch_table.specs.declared.order.Side.{Side}
use Rattle.itch_table.specs.declared.order.Side.TheVariants.{Buy, Sell}
use Rattle.itch_trace.specs.Lines.{fields_of_level, place_fields}

none_of : {X : Type 0} (xs : List X) → length xs ≡ 0 → xs ≡ []
none_of [] long = refl
none_of (x ∷ xs) long = absurd (omega (arith, long))

entries_none : {K X : Type 0} (R : K → K → Ordering) (m : FinMap R X) → m ≡ maps.empty → maps.entries m ≡ []
entries_none {K} {X} R m is = none_of (maps.entries m) (sym (maps.len-entries m) ∙ ap maps.len is ∙ maps.len-empty R X)

no_orders : orders_of empty_world 0 ≡ []
no_orders = ap (λ es. map (λ e. order_of e.0 e.1) (filter (λ e. is_under 0 e.0) es)) (entries_none key_cmp empty_world.orders refl)

no_levels : (side : Side) → levels [] side ≡ []
no_levels Buy = ap (λ es. reverse (map level_of es)) (entries_none nat_cmp (level_map [] Buy) refl)
no_levels Sell = ap (map level_of) (entries_none nat_cmp (level_map [] Sell) refl)

pub no_place : (place : ℕ) → place_fields (orders_of empty_world 0) place ≡ codes ",,,,"
no_place place =
    ap (λ (orders : List Order). place_fields orders place) no_orders
    ∙ (λ i. fields_of_level (slice_index_or (no_levels Buy i) place no_level) ++ fields_of_level (slice_index_or (no_levels Sell i) place no_level))
