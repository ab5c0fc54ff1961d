-- The moments of a stock, one message on.
use Rattle.std.proofs.Common.{◌≡◌, ◌≢◌, ℕ, ◌+◌, Bool, true, false, cond, List, [], ◌∷◌, ◌++◌, drop, get_or, ap, sym, ◌∙◌, arith}
use Rattle.std.proofs.lemmas.List.{append-nil}
use Rattle.itch_table.specs.declared.outcome.Outcome.{Outcome}
use Rattle.itch_table.specs.declared.outcome.Part.TheVariants.{Locate}
use Rattle.itch_table.specs.declared.order.Order.{Order}
use Rattle.itch_table.specs.declared.order.Top.{Top}
use Rattle.itch_table.specs.After.{after}
use Rattle.itch_table.specs.Levels.{top}
use Rattle.itch_table.specs.Parts.{part}
use Rattle.itch_table.specs.Projection.{only, is_of_stock, payload_at, StepsAreOwn, OthersStay}
use Rattle.itch_table.specs.Shows.{top_after}
use Rattle.itch_table.specs.Table.{step}
use Rattle.itch_table.specs.World.{World, orders_of}
use Rattle.itch_table.proofs.Days.{after-next}
use Rattle.itch_readings.proofs.GoesOn.{here, payload-is}
use Rattle.itch_readings.proofs.OwnNumbers.{own_more}
use Rattle.itch_readings.specs.Tops.{moment, time_of, tops_until}

-- where a day goes on with a payload after n messages
module _ (day rest : List (List ℕ)) (n : ℕ) (payload : List ℕ) (goes_on : drop n day ≡ payload ∷ rest) where
  is_here : get_or day n [] ≡ payload
  is_here = here day rest n payload goes_on

  -- the next message is a moment where it is of the stock
  next-moment : (locate : ℕ) (own : Bool) → is_of_stock locate payload ≡ own
      → tops_until day locate (n + 1) ≡ tops_until day locate n ++ cond own (moment day locate (n + 1) ∷ []) []
  next-moment locate own is =
      let seam : 1 + n ≡ n + 1 = omega arith in
      own_more (moment day locate) day locate 1 n (n + 1) seam
      ∙ ap (λ (b : Bool). tops_until day locate n ++ cond b (moment day locate (n + 1) ∷ []) []) (ap (is_of_stock locate) (payload-is day rest n payload goes_on) ∙ is)

  pub next-is : (locate : ℕ) → is_of_stock locate payload ≡ true
      → tops_until day locate (n + 1) ≡ tops_until day locate n ++ moment day locate (n + 1) ∷ []
  next-is locate is = next-moment locate true is

  pub next-is-not : (locate : ℕ) → is_of_stock locate payload ≡ false → tops_until day locate (n + 1) ≡ tops_until day locate n
  next-is-not locate is = next-moment locate false is ∙ append-nil (tops_until day locate n)

  -- the rows of a machine of one stock, after a message of this stock
  pub own_rows : (locate : ℕ) (world new : World) (found : Outcome) → StepsAreOwn → part payload ≡ Locate locate
      → world ≡ only locate (after day n) → (found, new) ≡ step world payload → new ≡ only locate (after day (n + 1))
  own_rows locate world new found own is stands took =
      ap (λ (r : Outcome × World). r.1) (took ∙ ap (λ (w : World). step w payload) stands ∙ own (after day n) payload locate is)
      ∙ ap (λ (p : List ℕ). only locate (step (after day n) p).1) (sym is_here)
      ∙ ap (only locate) (sym (after-next day n))

  -- and after another one
  pub other_rows : (locate : ℕ) (world : World) → OthersStay → part payload ≢ Locate locate
      → world ≡ only locate (after day n) → world ≡ only locate (after day (n + 1))
  other_rows locate world others is stands =
      stands ∙ sym (others (after day n) payload locate is)
      ∙ ap (λ (p : List ℕ). only locate (step (after day n) p).1) (sym is_here)
      ∙ ap (only locate) (sym (after-next day n))

-- what the machine shows after message n, with the message's time, is the moment of message n
pub moment-is : (day : List (List ℕ)) (locate n time : ℕ) (shown : Top) (world : World)
    → ((w : World) (l : ℕ) → orders_of (only l w) l ≡ orders_of w l) → time ≡ time_of (payload_at day n)
    → world ≡ only locate (after day n) → shown ≡ top (orders_of world locate)
    → record { message = n; time = time; top = shown } ≡ moment day locate n
unfolding top_after
moment-is day locate n time shown world suffice at stands is =
    ap (λ (t : ℕ). record { message = n; time = t; top = shown }) at
    ∙ ap (λ (t : Top). record { message = n; time = time_of (payload_at day n); top = t }) (
    is ∙ ap (λ (w : World). top (orders_of w locate)) stands ∙ ap (λ (orders : List Order). top orders) (suffice (after day n) locate)
    )
