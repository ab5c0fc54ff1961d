-- A day whose messages are taken, along a segment.
use Rattle.std.proofs.Common.{◌≡◌, ◌+◌, ◌≤◌, ℕ, List, [], ◌∷◌, ◌++◌, length, sym, ap, subst, ◌∙◌, arith, append-nil}
use Rattle.std.proofs.lemmas.List.{append_assoc, length-append}

-- the messages before the rest of a day were taken
pub record HasTakenAlong (Taken : List (List ℕ) → Type 0) (day rest : List (List ℕ)) : Type 0 where
  pub so_far : List (List ℕ)
  pub whole : so_far ++ rest ≡ day
  pub taken : Taken so_far

pub along_first : (Taken : List (List ℕ) → Type 0) (day segment rest : List (List ℕ)) → rest ≡ segment → Taken day → HasTakenAlong Taken (day ++ segment) rest
along_first Taken day segment rest all taken = record { so_far = day; whole = ap (λ (l : List (List ℕ)). day ++ l) all; taken = taken }

module _ (Taken : List (List ℕ) → Type 0) (day rest : List (List ℕ)) (along : HasTakenAlong Taken day rest)
    (payload : List ℕ) (more : List (List ℕ)) (goes_on : rest ≡ payload ∷ more) where
  pub along_fits : length along.so_far + 1 ≤ length day
  along_fits = omega (arith, ap length along.whole, length-append along.so_far rest, ap length goes_on)

  pub along_next : (Next : List (List ℕ) → Type 0) → Next (along.so_far ++ payload ∷ []) → HasTakenAlong Next day more
  along_next Next taken = record {
    so_far = along.so_far ++ payload ∷ [];
    whole = append_assoc along.so_far (payload ∷ []) more ∙ ap (λ (l : List (List ℕ)). along.so_far ++ l) (sym goes_on) ∙ along.whole;
    taken = taken;
  }

pub along_all : (Taken : List (List ℕ) → Type 0) (day rest : List (List ℕ)) → HasTakenAlong Taken day rest → rest ≡ [] → Taken day
along_all Taken day rest along none =
    subst Taken (sym (append-nil along.so_far) ∙ ap (λ (l : List (List ℕ)). along.so_far ++ l) (sym none) ∙ along.whole) along.taken
