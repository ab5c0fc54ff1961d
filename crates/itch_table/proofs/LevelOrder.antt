-- The order of a side's levels is that of a map's entries.
use Rattle.std.proofs.Common.{◌≡◌, ℕ, ◌-◌, ◌<◌, List, [], ◌∷◌, All, true, length, map, reverse, arith}
use Rattle.std.specs.List.{AllPairs}
use Rattle.std.specs.Ordering.{nat_cmp}
use Rattle.std.specs.FinMap.{entries, entries_sorted}
use Rattle.std.specs.FinMap.Entries.{is_sorted, below_all}
use Rattle.std.proofs.lemmas.Bool.Decides.{nat_tests}
use Rattle.std.proofs.lemmas.Grind.{common_steps}
use Rattle.std.proofs.lemmas.List.{get_or-reverse, length-reverse}
use Rattle.std.proofs.lemmas.List.Elements.{All-cons}
use Rattle.std.proofs.lemmas.List.Kept.{AllPairs-cons}
use Rattle.itch_table.specs.declared.order.Level.{Level}
use Rattle.itch_table.specs.declared.order.Side.TheVariants.{Buy, Sell}
use Rattle.itch_table.specs.Levels.{level_map, level_of, rising_levels}
use Rattle.itch_table.specs.LevelOrder.{BetterLevelsFirst, IsBetter}
use Rattle.itch_table.proofs.BestLevels.{holds}

-- the levels of entries above a key are above it
above : (e : ℕ × ℕ) (es : List (ℕ × ℕ)) → below_all nat_cmp e.0 es ≡ true → All (IsBetter Sell (level_of e)) (map level_of es)
above e [] h = λ k d lt. absurd (omega (arith, lt))
above e (f ∷ es) h = All-cons (IsBetter Sell (level_of e)) (level_of f) (map level_of es) (grind (arith, common_steps, nat_tests)) (above e es (grind (arith, common_steps, nat_tests)))

-- the levels of entries in order rise
rise : (es : List (ℕ × ℕ)) → is_sorted nat_cmp es ≡ true → AllPairs (IsBetter Sell) (map level_of es)
rise [] h = λ i j d before lt. absurd (omega (arith, lt))
rise (e ∷ es) h =
    AllPairs-cons (IsBetter Sell) (level_of e) (map level_of es) (above e es (grind (arith, common_steps, nat_tests))) (rise es (grind (arith, common_steps, nat_tests)))

-- a list that rises falls from its end on
fall : (levels : List Level) → AllPairs (IsBetter Sell) levels → AllPairs (IsBetter Buy) (reverse levels)
fall levels rises i j d before lt =
    let within : j < length levels = omega (arith, lt, length-reverse levels) in
    let earlier : i < length levels = omega (arith, before, within) in
    rw (get_or-reverse levels i d earlier, get_or-reverse levels j d within)
    (rises (length levels - 1 - j) (length levels - 1 - i) d (omega (arith, before, within)) (omega (arith, before, within)))

pub better_levels_first : BetterLevelsFirst
better_levels_first orders Buy = fall (rising_levels orders Buy) (rise (entries (level_map orders Buy)) (holds _ (entries_sorted (level_map orders Buy))))
better_levels_first orders Sell = rise (entries (level_map orders Sell)) (holds _ (entries_sorted (level_map orders Sell)))
