-- One message more of a day that is shown.
use Rattle.std.proofs.Common.{◌≡◌, ℕ, ◌+◌, ◌-◌, ◌<◌, ◌^◌, List, [], ◌∷◌, ◌++◌, length, get_or, Some, refl, ap, sym, ◌∙◌, arith}
use Rattle.std.specs.Prelude.{slice_get}
use Rattle.std.proofs.lemmas.List.{get_or_default}
use Rattle.itch_table.specs.declared.order.Top.{Top}
use Rattle.itch_table.specs.declared.outcome.Outcome.{Outcome}
use Rattle.itch_table.specs.After.{after}
use Rattle.itch_table.specs.Levels.{top}
use Rattle.itch_table.specs.Shows.{top_after}
use Rattle.itch_table.specs.Table.{step}
use Rattle.itch_table.specs.World.{World, empty_world, orders_of}
use Rattle.itch_table.proofs.Days.{after-next, after-none}
use Rattle.itch_table.specs.Machine.{Machine}
use Rattle.top_cell.specs.Boards.{CellId, WriterAt, AreNew, IsOn}
use Rattle.test_top_cell.specs.Showing.{AreInStep}

-- the world of a machine after the next message
pub next_world : (day : List (List ℕ)) (n : ℕ) (world new : World) (found : Outcome) (payload : List ℕ)
    → world ≡ after day n → n < length day → payload ≡ get_or day (n + 1 - 1) payload → (found, new) ≡ step world payload
    → new ≡ after day (n + 1)
next_world day n world new found payload stands lt at took =
    let same : n + 1 - 1 ≡ n = omega arith in
    let here : get_or day n [] ≡ payload = sym (at ∙ ap (λ (k : ℕ). get_or day k payload) same ∙ get_or_default day n payload [] lt) in
    ap (λ (r : Outcome × World). r.1) (took ∙ ap (λ (w : World). step w payload) stands)
    ∙ ap (λ (p : List ℕ). (step (after day n) p).1) (sym here)
    ∙ sym (after-next day n)

-- the top of that world
pub top_is : (day : List (List ℕ)) (locate n : ℕ) (world : World) (shown : Top) → world ≡ after day n
    → shown ≡ top (orders_of world locate) → shown ≡ top_after day locate n
unfolding top_after
top_is day locate n world shown stands is = is ∙ ap (λ (w : World). top (orders_of w locate)) stands

-- a machine and a writer before the first message
pub before_first : (day : List (List ℕ)) (board : List CellId) (m : Machine) (w : WriterAt) → length day < 2 ^ 32
    → m.world ≡ empty_world → m.steps ≡ 0 → w.place.day ≡ day → IsOn board w.place → w.message ≡ 0 → AreInStep day board m w
before_first day board m w few world steps of on message = record {
  few = few;
  world = world ∙ sym (after-none day) ∙ ap (after day) (sym steps);
  within = omega (arith, steps);
  day_is = of;
  on = on;
  message = message ∙ sym steps;
}

-- what stands last in a list
pub last_at : {A : Type 0} (xs : List A) (x : A) → slice_get (xs ++ x ∷ []) (length xs) ≡ Some x
last_at [] x = refl
last_at (y ∷ ys) x = last_at ys x

-- the last of a new board's writers
pub last_writer : (day : List (List ℕ)) (locates : List ℕ) (board : List CellId) (writers : List WriterAt) (w : WriterAt)
    → AreNew day locates board (writers ++ w ∷ []) → (w.place.day ≡ day) × IsOn board w.place × (w.message ≡ 0)
last_writer day locates board writers w new =
    let e = new.each (length writers) w (last_at writers w) in
    (ap (λ (u : WriterAt). u.place.day) e.0, e.1, ap (λ (u : WriterAt). u.message) e.0)
