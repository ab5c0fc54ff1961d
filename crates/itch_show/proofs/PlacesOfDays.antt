-- The position of a place, along the messages of a day.
use Rattle.std.proofs.Common.{◌≡◌, ℕ, ◌+◌, ◌≤◌, Bool, true, false, cond, List, [], ◌∷◌, ◌++◌, length, ap, ◌∙◌, arith}
use Rattle.std.specs.Prelude.{not}
use Rattle.std.specs.List.{prefix_len}
use Rattle.std.proofs.lemmas.Bool.{eq-eqb, false≢true, leb-false, leb-true, ltb-false, ltb-true}
use Rattle.std.proofs.lemmas.List.{length-append, length-take, length-take-le, take_all}
use Rattle.std.proofs.lemmas.List.Folds.{prefix_len-append}
use Rattle.std.proofs.lemmas.List.Sums.{prefix_len-le-length}
use Rattle.itch_show.specs.Places.{ComesUpTo, IsPast, is_before, is_later, is_past, is_reached, position_of, up_to}
use Rattle.itch_show.specs.declared.place.Place.{Place}
use Rattle.itch_show.specs.declared.place.Place.TheVariants.{End, After, At}

-- where all messages of a day pass a test, those after it that pass are counted on
prefix_on : (p : List ℕ → Bool) (day more : List (List ℕ)) → length day ≤ prefix_len p day
    → prefix_len p (day ++ more) ≡ length day + prefix_len p more
prefix_on p day more all =
    let same : prefix_len p day ≡ length day = omega (arith, all, prefix_len-le-length p day) in
    prefix_len-append p day more
    ∙ ap (λ (b : Bool). cond b (length day + prefix_len p more) (prefix_len p day)) (eq-eqb (prefix_len p day) (length day) same)

longer : (day : List (List ℕ)) (payload : List ℕ) (more : List (List ℕ)) → length (day ++ payload ∷ more) ≡ length day + 1 + length more
longer day payload more = omega (arith, length-append day (payload ∷ more))

-- a message more that the place doesn't lie before
pub comes_on : (place : Place) (day : List (List ℕ)) (payload : List ℕ) → ComesUpTo place day
    → is_before place (length day) payload ≡ false → ComesUpTo place (day ++ payload ∷ [])
comes_on End day payload up off = omega arith
comes_on (After n) day payload up off = omega (arith, longer day payload [], leb-false n (length day) off)
comes_on (At time) day payload up off =
    let one : prefix_len (λ p. not (is_later time p)) (payload ∷ []) ≡ 1 =
    ap (λ (b : Bool). cond (not b) (1 + 0) 0) off in
    omega (arith, longer day payload [], prefix_on (λ p. not (is_later time p)) day (payload ∷ []) up, one)

-- a message more that it lies before
pub stops_before : (place : Place) (day : List (List ℕ)) (payload : List ℕ) (more : List (List ℕ)) → ComesUpTo place day
    → is_before place (length day) payload ≡ true → position_of place (day ++ payload ∷ more) ≡ length day
stops_before End day payload more up on = absurd (false≢true on)
stops_before (After n) day payload more up on = omega (arith, up, leb-true n (length day) on)
stops_before (At time) day payload more up on =
    let none : prefix_len (λ p. not (is_later time p)) (payload ∷ more) ≡ 0 =
    ap (λ (b : Bool). cond (not b) (1 + prefix_len (λ p. not (is_later time p)) more) 0) on in
    omega (arith, prefix_on (λ p. not (is_later time p)) day (payload ∷ more) up, none)

-- the messages that it lies after, whatever follows
pub stops_after : (place : Place) (day more : List (List ℕ)) → ComesUpTo place day
    → is_reached place (length day) ≡ true → position_of place (day ++ more) ≡ length day
stops_after End day more up on = absurd (false≢true on)
stops_after (After n) day more up on = omega (arith, up, leb-true n (length day) on)
stops_after (At time) day more up on = absurd (false≢true on)

-- the whole of a day that comes up to it
pub up_to_all : (place : Place) (day : List (List ℕ)) → ComesUpTo place day → up_to place day ≡ day
up_to_all place day up = take_all (position_of place day) day up

-- no message is before the first
pub comes_first : (place : Place) → ComesUpTo place []
comes_first place = omega arith

-- a place that doesn't ask for more messages than there are before it
pub not_past : (place : Place) (day : List (List ℕ)) (messages : ℕ) → messages ≡ length (up_to place day)
    → is_past place messages ≡ false → length (up_to place day) ≡ position_of place day
not_past End day messages is off = length-take-le (length day) day (omega arith)
not_past (After n) day messages is off = omega (arith, is, ltb-false messages n off, length-take n day)
not_past (At time) day messages is off = length-take-le _ day (prefix_len-le-length (λ p. not (is_later time p)) day)

pub there : (place : Place) (day : List (List ℕ)) → length (up_to place day) ≡ position_of place day → ¬ IsPast place day
there place day same past = omega (arith, same, past, length-take (position_of place day) day)

-- one that does
pub past : (place : Place) (day : List (List ℕ)) (messages : ℕ) → messages ≡ length (up_to place day)
    → is_past place messages ≡ true → IsPast place day
past End day messages is on = absurd (false≢true on)
past (After n) day messages is on = omega (arith, is, ltb-true messages n on, length-take n day)
past (At time) day messages is on = absurd (false≢true on)
