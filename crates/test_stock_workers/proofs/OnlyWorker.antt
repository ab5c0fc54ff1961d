-- The writers of a day's only worker, and those that a run gives back.
use Rattle.std.proofs.Common.{◌≡◌, ℕ, ◌%◌, List, [], ◌∷◌, All, Bool, true, cond, eqb, map, filter, get_or, refl, sym, ap, ap₂, subst, ◌∙◌, suc, arith}
use Rattle.std.proofs.lemmas.Bool.{eq-eqb}
use Rattle.std.proofs.lemmas.List.Elements.{All-map}
use Rattle.std.proofs.lemmas.Option.{slice_get-get_or}
use Rattle.itch_table.specs.Shows.{locates_of_day}
use Rattle.day_core.specs.Owners.{locates_by}
use Rattle.day_core.specs.Splitting.{ArePartsOf, DayParts}
use Rattle.top_cell.specs.Boards.{AreNew, CellId, IsOn, WriterAt}
use Rattle.stock_workers.specs.Running.{IsWaiting, at_last}
use Rattle.stock_workers.specs.Working.{WriterState, codes_by, writer_state}

-- all stocks are the only worker's
all_own : (ls : List ℕ) → filter (λ l. eqb (l % 1) 0) ls ≡ ls
all_own [] = refl
all_own (l ∷ ls) =
    let own : eqb (l % 1) 0 ≡ true = eq-eqb _ _ (omega arith) in
    ap (λ (b : Bool). cond b (l ∷ filter (λ l. eqb (l % 1) 0) ls) (filter (λ l. eqb (l % 1) 0) ls)) own ∙ ap (λ (xs : List ℕ). l ∷ xs) (all_own ls)

abbrev fresh : List (List ℕ) → ℕ → WriterState
fresh day locate = record { day = day; locate = locate; message = 0 }

all_fresh : (day : List (List ℕ)) (ws : List WriterAt) → All (λ w. writer_state w ≡ fresh day w.place.locate) ws → map writer_state ws ≡ map (fresh day) (map (λ w. w.place.locate) ws)
all_fresh day [] all = refl
all_fresh day (w ∷ ws) all = ap₂ ◌∷◌ (all 0 w (omega arith)) (all_fresh day ws (λ k d lt. all (suc k) d (omega arith)))

pub all_on : (day : List (List ℕ)) (board : List CellId) (ws : List WriterAt) → AreNew day (locates_of_day day) board ws → All (λ w. IsOn board w.place) ws
all_on day board ws new = λ k d lt. (new.each k (get_or ws k d) (slice_get-get_or ws k d lt)).1

pub only_codes : (day : List (List ℕ)) (parts : DayParts) → ArePartsOf day parts → parts.workers ≡ 1 → codes_by parts 0 ≡ locates_of_day day
only_codes day parts are one = ap (λ (n : ℕ). locates_by n 0 parts.locates) one ∙ all_own parts.locates ∙ are.locates_are

pub only_waits : (day : List (List ℕ)) (board : List CellId) (ws : List WriterAt) → AreNew day (locates_of_day day) board ws → IsWaiting day (locates_of_day day) board ws
only_waits day board ws new = record {
  none_done = all_fresh day ws (λ k d lt. ap writer_state (new.each k (get_or ws k d) (slice_get-get_or ws k d lt)).0) ∙ ap (map (fresh day)) new.stocks;
  on_board = all_on day board ws new;
}

-- writers that have shown all of a day are on the board where they were
pub still_on : (day : List (List ℕ)) (board : List CellId) (ws after : List WriterAt) → after ≡ map (at_last day) ws → All (λ w. IsOn board w.place) ws → All (λ w. IsOn board w.place) after
still_on day board ws after is on = subst (All (λ w. IsOn board w.place)) (sym is) (All-map (λ w. IsOn board w.place) (at_last day) ws on)
