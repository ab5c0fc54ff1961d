-- The tracks that are kept.
use Rattle.std.proofs.Common.{ℕ, suc, ◌<◌, ◌≤◌, List, ◌∷◌, length, take, drop, arith}
use Rattle.std.specs.List.{remove}
use Rattle.std.proofs.lemmas.List.{length-take}
use Rattle.std.proofs.lemmas.List.Edits.{length-remove}
use Rattle.std.proofs.lemmas.List.Elements.{All-append, All-cons, All-drop, All-take}
use Rattle.checkpoints.specs.Copies.{Tracked}
use Rattle.debugger.specs.Sessions.{AreTracks, IsOf}

module _ (day : List (List ℕ)) (every : ℕ) (busy tracks : List Tracked) (are : AreTracks day every busy tracks) where
  -- one is taken out
  pub tracks_removed : (i : ℕ) → i < length tracks → AreTracks day every busy (remove tracks i)
  tracks_removed i lt = record {
    some = are.some;
    busy_of = are.busy_of;
    recent_of = All-append (IsOf day every) (take i tracks) (drop (suc i) tracks) (All-take (IsOf day every) i tracks are.recent_of) (All-drop (IsOf day every) (suc i) tracks are.recent_of);
    few = omega (arith, are.few, length-remove tracks i lt);
  }

  -- some are dropped
  pub tracks_dropped : (n : ℕ) → AreTracks day every busy (take n tracks)
  tracks_dropped n = record {
    some = are.some;
    busy_of = are.busy_of;
    recent_of = All-take (IsOf day every) n tracks are.recent_of;
    few = omega (arith, are.few, length-take n tracks);
  }

  -- one is put first
  pub tracks_kept : (t : Tracked) → IsOf day every t → length tracks ≤ 63 → AreTracks day every busy (t ∷ tracks)
  tracks_kept t of room = record {
    some = are.some;
    busy_of = are.busy_of;
    recent_of = All-cons (IsOf day every) t tracks of are.recent_of;
    few = omega arith;
  }
