-- The messages of a day, one message on.
use Rattle.std.proofs.Common.{◌≡◌, ℕ, zero, suc, ◌+◌, ◌<◌, ◌≤◌, List, [], ◌∷◌, ◌++◌, length, refl, sym, ap, ◌∙◌, arith}
use Rattle.std.proofs.lemmas.List.FromFn.{map-range_with_len_more}
use Rattle.itch_table.specs.declared.outcome.Part.{Part}
use Rattle.itch_table.specs.declared.outcome.Part.TheVariants.{Locate, Nowhere}
use Rattle.itch_table.specs.Parts.{part}
use Rattle.itch_table.specs.Projection.{payload_at}
use Rattle.itch_readings.specs.OwnMessages.{OwnMessage}
use Rattle.itch_readings.proofs.LongerDays.{longer, outcome_more, payload_last, payload_more}
use Rattle.itch_readings.proofs.OwnMore.{own_at_more}
use Rattle.itch_trace.specs.Messages.{message_by, messages_of, messages_until, other_message}

until_more : (day : List (List ℕ)) (n : ℕ) → messages_until day (n + 1) ≡ messages_until day n ++ message_by day (n + 1) (part (payload_at day (n + 1))) ∷ []
until_more day n =
    let seam : 1 + n ≡ n + 1 = omega arith in
    map-range_with_len_more (λ (k : ℕ). message_by day k (part (payload_at day k))) 1 n (n + 1) seam

by_more : (day more : List (List ℕ)) (n : ℕ) (p : Part) → 0 < n → n ≤ length day → message_by (day ++ more) n p ≡ message_by day n p
by_more day more n (Locate locate) some within = own_at_more day more locate n some within
by_more day more n (Nowhere fixed) some within = λ i. other_message n (payload_more day more n some within i) (outcome_more day more n some within i)

until_before : (day more : List (List ℕ)) (n : ℕ) → n ≤ length day → messages_until (day ++ more) n ≡ messages_until day n
until_before day more zero within = refl
until_before day more (suc n) within =
    let one : n + 1 ≡ suc n = omega arith in
    let low : 0 < n + 1 = omega arith in
    let high : n + 1 ≤ length day = omega (arith, within) in
    ap (messages_until (day ++ more)) (sym one) ∙ until_more (day ++ more) n
    ∙ (λ i. until_before day more n (omega (arith, within)) i ++ message_by (day ++ more) (n + 1) (part (payload_more day more (n + 1) low high i)) ∷ [])
    ∙ ap (λ (m : OwnMessage). messages_until day n ++ m ∷ []) (by_more day more (n + 1) (part (payload_at day (n + 1))) low high)
    ∙ sym (until_more day n) ∙ ap (messages_until day) one

pub messages_more : (day : List (List ℕ)) (payload : List ℕ) → messages_of (day ++ payload ∷ []) ≡ messages_of day ++ message_by (day ++ payload ∷ []) (length day + 1) (part payload) ∷ []
messages_more day payload =
    let whole = day ++ payload ∷ [] in
    ap (messages_until whole) (longer day payload) ∙ until_more whole (length day)
    ∙ (λ i. until_before day (payload ∷ []) (length day) (omega arith) i ++ message_by whole (length day + 1) (part (payload_last day payload i)) ∷ [])
