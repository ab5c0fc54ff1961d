-- A stock's writer after a run.
use Rattle.std.proofs.Common.{◌≡◌, ℕ, List, length, map, get_or, sym, ap, subst, ◌∙◌}
use Rattle.std.proofs.lemmas.List.{get_or-map}
use Rattle.std.proofs.lemmas.Option.{slice_get-get_or}
use Rattle.day_core.specs.Owners.{last_message}
use Rattle.itch_table.specs.Projection.{IsQuiet}
use Rattle.stock_workers.specs.Running.{at_last}
use Rattle.top_cell.specs.Boards.{AreNew, CellId, IsOn, Place, WriterAt}
use Rattle.itch_watch.specs.Watching.{IsScreenOf}
use Rattle.itch_watch.proofs.NoLaterMessage.{quiet_after}

-- a writer of a stock of a day on a board stands at the stock's last message
pub record IsAtEnd (day : List (List ℕ)) (board : List CellId) (locate : ℕ) (w : WriterAt) : Type 0 where
  pub on : IsOn board w.place
  pub day_is : w.place.day ≡ day
  pub stock_is : w.place.locate ≡ locate
  pub message_is : w.message ≡ last_message day locate

pub quiet_at : (day : List (List ℕ)) (board : List CellId) (locate : ℕ) (w : WriterAt) → IsAtEnd day board locate w
    → IsQuiet w.place.day w.place.locate w.message (length w.place.day)
quiet_at day board locate w end = rw (end.message_is, end.day_is, end.stock_is) (quiet_after day locate)

-- and so does the writer of a screen's stock after a run
pub ends : (day : List (List ℕ)) (ls : List ℕ) (board : List CellId) (ws lent after : List WriterAt) (locate index : ℕ) (own : Place) (w : WriterAt)
    → AreNew day ls board ws → IsScreenOf board ws locate index own → lent ≡ ws → after ≡ map (at_last day) lent
    → w ≡ get_or after index w → IsAtEnd day board locate w
ends day ls board ws lent after locate index own w new screen same all at =
    let is : w ≡ at_last day (get_or ws index w) =
    at ∙ ap (λ (l : List WriterAt). get_or l index w) (all ∙ ap (map (at_last day)) same)
    ∙ get_or-map (at_last day) ws index w w screen.within in
    let place : w.place ≡ own = ap (λ (v : WriterAt). v.place) is ∙ screen.writer w in
    let first : (get_or ws index w).place.day ≡ day =
    ap (λ (v : WriterAt). v.place.day) (new.each index (get_or ws index w) (slice_get-get_or ws index w screen.within)).0 in
    let stock : (get_or ws index w).place.locate ≡ locate = ap (λ (p : Place). p.locate) (screen.writer w) ∙ screen.stock in
    record {
      on = subst (IsOn board) (sym place) screen.on;
      day_is = ap (λ (v : WriterAt). v.place.day) is ∙ first;
      stock_is = ap (λ (v : WriterAt). v.place.locate) is ∙ stock;
      message_is = ap (λ (v : WriterAt). v.message) is ∙ ap (last_message day) stock;
    }

-- the cell of the screen is of the day too
pub screens_day : (day : List (List ℕ)) (ls : List ℕ) (board : List CellId) (ws : List WriterAt) (locate index : ℕ) (own : Place) (d : WriterAt)
    → AreNew day ls board ws → IsScreenOf board ws locate index own → own.day ≡ day
screens_day day ls board ws locate index own d new screen =
    ap (λ (p : Place). p.day) (sym (screen.writer d))
    ∙ ap (λ (w : WriterAt). w.place.day) (new.each index (get_or ws index d) (slice_get-get_or ws index d screen.within)).0
