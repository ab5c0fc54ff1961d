-- Payloads that come in any world, as one stock sees them.
use Rattle.std.proofs.Common.{◌≡◌, ℕ, zero, suc, ◌+◌, ◌<◌, List, [], ◌∷◌, ◌++◌, length, get_or, take, Bool, true, false, cond, refl, sym, ap, ◌∙◌, arith}
use Rattle.std.proofs.lemmas.List.{take_more}
use Rattle.itch_table.specs.declared.outcome.Outcome.{Outcome}
use Rattle.itch_table.specs.AnyWorld.{DaysAreLists, ListsSplit, after_all}
use Rattle.itch_table.specs.Projection.{is_of_stock, only, stock_day}
use Rattle.itch_table.specs.Table.{step}
use Rattle.itch_table.specs.World.{World, empty_world}
use Rattle.itch_table.proofs.Days.{after-next, after-none}
use Rattle.itch_table.proofs.OtherSteps.{others_stay}
use Rattle.itch_table.proofs.OwnSteps.{steps_are_own}
use Rattle.itch_table.proofs.StockDays.{other_part, own_part}

pub lists_split : ListsSplit
unfolding stock_day
lists_split w [] locate = refl
lists_split w (payload ∷ payloads) locate =
    lists_split (step w payload).1 payloads locate ∙ first (is_of_stock locate payload) refl
  where
    first : (b : Bool) → is_of_stock locate payload ≡ b
        → after_all (only locate (step w payload).1) (stock_day payloads locate)
        ≡ after_all (only locate w) (cond b (payload ∷ stock_day payloads locate) (stock_day payloads locate))
    first true own =
        ap (λ (r : Outcome × World). after_all r.1 (stock_day payloads locate))
        (sym (steps_are_own w payload locate (own_part locate _ own)))
    first false other =
        ap (λ (v : World). after_all v (stock_day payloads locate)) (others_stay w payload locate (other_part locate _ other))

-- one payload more
pub after_all-push : (w : World) (payloads : List (List ℕ)) (last : List ℕ) → after_all w (payloads ++ last ∷ []) ≡ (step (after_all w payloads) last).1
after_all-push w [] last = refl
after_all-push w (payload ∷ payloads) last = after_all-push (step w payload).1 payloads last

pub days_are_lists : DaysAreLists
days_are_lists day zero le = after-none day
days_are_lists day (suc n) le =
    let one : n + 1 ≡ suc n = omega arith in
    let below : n < length day = omega (arith, le) in
    rw (← one) (
    after-next day n
    ∙ ap (λ (w : World). (step w (get_or day n [])).1) (days_are_lists day n (omega (arith, le)))
    ∙ sym (after_all-push empty_world (take n day) (get_or day n []))
    ∙ ap (after_all empty_world) (sym (take_more day n [] below))
    )

pub ruleset lists_by_stock = (lists_split, days_are_lists)
