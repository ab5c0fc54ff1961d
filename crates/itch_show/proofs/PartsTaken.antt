-- The messages of a segment, taken one by one up to a place.
use Rattle.std.proofs.Common.{◌≡◌, ℕ, ◌+◌, ◌≤◌, true, false, IsTrue, List, [], ◌∷◌, ◌++◌, length, take, refl, sym, ap, subst, ◌∙◌, arith, append-nil}
use Rattle.std.proofs.lemmas.List.{append_assoc, length-append, take_at}
use Rattle.itch_show.specs.Places.{ComesUpTo, TakesUpTo, is_before, is_reached, position_of}
use Rattle.itch_show.specs.declared.place.Place.{Place}
use Rattle.itch_show.proofs.PlacesOfDays.{comes_on, stops_after, stops_before}

-- so many messages of a segment were taken, all of which come before the place; these are left
pub record IsTakenAlong (place : Place) (Taken : List (List ℕ) → Type 0) (day segment rest : List (List ℕ)) (messages : ℕ) : Type 0 where
  pub so_far : List (List ℕ)
  pub whole : so_far ++ rest ≡ segment
  pub counted : messages ≡ length so_far
  pub taken : Taken (day ++ so_far)
  pub up : ComesUpTo place (day ++ so_far)

pub along_none : (place : Place) (Taken : List (List ℕ) → Type 0) (day segment rest : List (List ℕ)) → rest ≡ segment → Taken day → ComesUpTo place day
    → IsTakenAlong place Taken day segment rest 0
along_none place Taken day segment rest all taken up = record {
  so_far = [];
  whole = all;
  counted = refl;
  taken = subst Taken (sym (append-nil day)) taken;
  up = subst (ComesUpTo place) (sym (append-nil day)) up;
}

module _ (place : Place) (Taken : List (List ℕ) → Type 0) (day segment rest : List (List ℕ)) (messages before : ℕ)
    (along : IsTakenAlong place Taken day segment rest messages) (first : before ≡ length day) where
  at : before + messages ≡ length (day ++ along.so_far)
  at = omega (arith, first, along.counted, length-append day along.so_far)

  fits : messages ≤ length segment
  fits = omega (arith, along.counted, ap length along.whole, length-append along.so_far rest)

  front : take messages segment ≡ along.so_far
  front = ap (take messages) (sym along.whole) ∙ take_at along.so_far rest messages (sym along.counted)

  holds : Taken (day ++ take messages segment)
  holds = subst (λ (l : List (List ℕ)). Taken (day ++ l)) (sym front) along.taken

  comes_up : ComesUpTo place (day ++ take messages segment)
  comes_up = subst (λ (l : List (List ℕ)). ComesUpTo place (day ++ l)) (sym front) along.up

  module _ (payload : List ℕ) (more : List (List ℕ)) (goes : rest ≡ payload ∷ more) where
    -- there is room for the next
    pub fits_next : messages + 1 ≤ length segment
    fits_next = omega (arith, along.counted, ap length along.whole, length-append along.so_far rest, ap length goes)

    pub along_next : (Next : List (List ℕ) → Type 0) → is_before place (before + messages) payload ≡ false
        → Next ((day ++ along.so_far) ++ payload ∷ []) → IsTakenAlong place Next day segment more (messages + 1)
    along_next Next off taken =
        let same : (day ++ along.so_far) ++ payload ∷ [] ≡ day ++ (along.so_far ++ payload ∷ []) = append_assoc day along.so_far (payload ∷ []) in
        record {
          so_far = along.so_far ++ payload ∷ [];
          whole = append_assoc along.so_far (payload ∷ []) more ∙ ap (λ (l : List (List ℕ)). along.so_far ++ l) (sym goes) ∙ along.whole;
          counted = omega (arith, along.counted, length-append along.so_far (payload ∷ []));
          taken = subst Next same taken;
          up = subst (ComesUpTo place) same
              (comes_on place (day ++ along.so_far) payload along.up (ap (λ (n : ℕ). is_before place n payload) (sym at) ∙ off));
        }

    -- the place lies before the next
    pub stopped : is_before place (before + messages) payload ≡ true → TakesUpTo place day segment messages true Taken
    stopped on = record {
      few = fits;
      holds = holds;
      comes_up = comes_up;
      closed = λ _ after.
          let parts : (day ++ segment) ++ after ≡ (day ++ along.so_far) ++ payload ∷ (more ++ after) =
          ap (λ (l : List (List ℕ)). (day ++ l) ++ after) (sym along.whole ∙ ap (λ (l : List (List ℕ)). along.so_far ++ l) goes)
          ∙ ap (λ (l : List (List ℕ)). l ++ after) (sym (append_assoc day along.so_far (payload ∷ more)))
          ∙ append_assoc (day ++ along.so_far) (payload ∷ more) after in
          ap (position_of place) parts
          ∙ stops_before place (day ++ along.so_far) payload (more ++ after) along.up (ap (λ (n : ℕ). is_before place n payload) (sym at) ∙ on)
          ∙ omega (arith, first, at);
      goes_on = λ no. absurd (no refl);
    }

  -- none is left
  pub all_taken : rest ≡ [] → TakesUpTo place day segment messages (is_reached place (before + messages)) Taken
  all_taken none =
      let all : along.so_far ≡ segment = sym (append-nil along.so_far) ∙ ap (λ (l : List (List ℕ)). along.so_far ++ l) (sym none) ∙ along.whole in
      record {
        few = fits;
        holds = holds;
        comes_up = comes_up;
        closed = λ on after.
            ap (λ (l : List (List ℕ)). position_of place ((day ++ l) ++ after)) (sym all)
            ∙ stops_after place (day ++ along.so_far) after along.up (ap (is_reached place) (sym at) ∙ on)
            ∙ omega (arith, first, at);
        goes_on = λ off. (
          omega (arith, along.counted, ap length all),
          subst (λ (l : List (List ℕ)). ComesUpTo place (day ++ l)) all along.up,
          λ on. off (subst (λ (n : ℕ). IsTrue (is_reached place (n + messages))) (sym first) on),
        );
      }
