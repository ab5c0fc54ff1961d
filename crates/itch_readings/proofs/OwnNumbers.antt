-- The numbers of a stock's messages, one message on.
use Rattle.std.proofs.Common.{◌≡◌, ℕ, ◌+◌, Bool, true, false, cond, List, [], ◌∷◌, ◌++◌, filter, map, map-id, refl, sym, ap, ◌∙◌}
use Rattle.std.specs.List.{range_with_len}
use Rattle.std.proofs.lemmas.List.{map-append}
use Rattle.std.proofs.lemmas.List.FromFn.{filter_of_map_range_with_len_more}
use Rattle.itch_table.specs.Projection.{is_of_stock, payload_at}
use Rattle.itch_readings.specs.OwnMessages.{own_numbers}

numbers_more : (p : ℕ → Bool) (a n last : ℕ) → a + n ≡ last
    → filter p (range_with_len a (n + 1)) ≡ filter p (range_with_len a n) ++ cond (p last) (last ∷ []) []
numbers_more p a n last is =
    ap (filter p) (sym (map-id _)) ∙ filter_of_map_range_with_len_more p (λ (k : ℕ). k) a n last is
    ∙ ap (λ (l : List ℕ). filter p l ++ cond (p last) (last ∷ []) []) (map-id _)

-- what is made of each of them
pub own_more : {X : Type 0} (f : ℕ → X) (day : List (List ℕ)) (locate n count last : ℕ) → n + count ≡ last
    → map f (own_numbers day locate n (count + 1))
    ≡ map f (own_numbers day locate n count) ++ cond (is_of_stock locate (payload_at day last)) (f last ∷ []) []
own_more {X = X} f day locate n count last is =
    ap (map f) (numbers_more (λ k. is_of_stock locate (payload_at day k)) n count last is)
    ∙ map-append f (own_numbers day locate n count) _
    ∙ ap (λ (l : List X). map f (own_numbers day locate n count) ++ l) (one_or_none (is_of_stock locate (payload_at day last)))
  where
    one_or_none : (own : Bool) → map f (cond own (last ∷ []) []) ≡ cond own (f last ∷ []) []
    one_or_none true = refl
    one_or_none false = refl
