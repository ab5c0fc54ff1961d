-- How many messages of a stock were refused, by the refused messages of a day.
use Rattle.std.proofs.Common.{◌≡◌, ℕ, ◌+◌, List, [], ◌∷◌, length, Bool, true, false, ◌&&◌, cond, filter, map, refl, sym, ap, ◌∙◌, arith}
use Rattle.std.specs.List.{count_by, range_with_len}
use Rattle.std.proofs.lemmas.List.Sums.{sum_by-cons}
use Rattle.itch_table.specs.declared.outcome.Part.{Part}
use Rattle.itch_table.specs.declared.outcome.Part.TheVariants.{Locate, Nowhere}
use Rattle.itch_table.specs.After.{outcome}
use Rattle.itch_table.specs.Projection.{is_locate}
use Rattle.day_core.specs.Owners.{part_at}
use Rattle.day_replay.specs.declared.refusals.RefusedMessage.{RefusedMessage}
use Rattle.day_replay.specs.Summaries.{RefusedAreCounted, count_of_stock, is_refused, is_refused_of, is_stock, refused_among, refused_message, stock_of}

same_stock : (locate : ℕ) (p : Part) → is_stock locate (stock_of p) ≡ is_locate locate p
same_stock locate (Locate other) = refl
same_stock locate (Nowhere fixed) = refl

counted : (day : List (List ℕ)) (locate : ℕ) (numbers : List ℕ) → count_of_stock (refused_among day numbers) locate ≡ count_by (is_refused_of day locate) numbers
counted day locate [] = refl
counted day locate (n ∷ numbers) =
    by (counted day locate numbers) (is_refused (outcome day n)) ∙ sym (sum_by-cons (λ (m : ℕ). cond (is_refused_of day locate m) 1 0) n numbers)
  where
    by : count_of_stock (refused_among day numbers) locate ≡ count_by (is_refused_of day locate) numbers → (b : Bool)
        → count_of_stock (map (refused_message day) (cond b (n ∷ filter (λ m. is_refused (outcome day m)) numbers) (filter (λ m. is_refused (outcome day m)) numbers))) locate
        ≡ cond (b && is_locate locate (part_at day n)) 1 0 + count_by (is_refused_of day locate) numbers
    by rest true =
        sum_by-cons (λ (r : RefusedMessage). cond (is_stock locate r.locate) 1 0) (refused_message day n) (refused_among day numbers)
        ∙ ap (λ (b : Bool). cond b 1 0 + count_of_stock (refused_among day numbers) locate) (same_stock locate (part_at day n))
        ∙ ap (λ (k : ℕ). cond (is_locate locate (part_at day n)) 1 0 + k) rest
    by rest false = omega (arith, rest)

pub refused_are_counted : RefusedAreCounted
refused_are_counted day locate = counted day locate (range_with_len 1 (length day))
