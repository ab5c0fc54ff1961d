-- A worker's whole run.
use Rattle.std.proofs.Common.{◌≡◌, ℕ, List, [], ◌∷◌, ◌++◌, All, Some, None, length, get_or, map, take, refl, sym, ap, ap₂, subst, ◌∙◌, arith}
use Rattle.std.proofs.lemmas.List.{map-append, take_all, take_more}
use Rattle.std.proofs.lemmas.List.Elements.{All-map}
use Rattle.day_core.specs.declared.merging.Piece.{Piece}
use Rattle.day_core.specs.Owners.{last_message, own_of, piece_of}
use Rattle.day_core.specs.Replaying.{last_machine}
use Rattle.day_core.specs.Splitting.{DayParts}
use Rattle.top_cell.specs.Boards.{CellId, IsOn, Place, WriterAt}
use Rattle.stock_workers.specs.Running.{IsFinished, at_last}
use Rattle.stock_workers.specs.Working.{IsWorkerOf, TakesTurn, Working, WriterState, WritersAt, codes_of, first_working, messages_of, places_of, writer_state}
use Rattle.stock_workers.proofs.WorkerInvariant.{last_stocks, last_writers}

-- a writer at its stock's last message
last_each : (day : List (List ℕ)) (ls : List ℕ) (ws : List WriterAt) → WritersAt day (last_message day) ls ws → ws ≡ map (at_last day) ws
last_each day ls [] is = refl
last_each day [] (w ∷ ws) is = absurd (omega (arith, ap length is))
last_each day (l ∷ ls) (w ∷ ws) is =
    let there : WriterState = record { day = day; locate = l; message = last_message day l } in
    let head : writer_state w ≡ there = cc in
    let rest : WritersAt day (last_message day) ls ws = cc in
    let message : w.message ≡ last_message day w.place.locate =
    ap (λ (z : WriterState). z.message) head ∙ ap (last_message day) (sym (ap (λ (z : WriterState). z.locate) head))
    in
    ap₂ ◌∷◌ (ap (λ (k : ℕ). let z : WriterAt = record w { message = k } in z) message) (last_each day ls ws rest)

-- it depends on the cell alone
same_last : (day : List (List ℕ)) (xs ys : List WriterAt) → map (λ w. w.place) xs ≡ map (λ w. w.place) ys → map (at_last day) xs ≡ map (at_last day) ys
same_last day [] [] same = refl
same_last day [] (y ∷ ys) same = absurd (omega (arith, ap length same))
same_last day (x ∷ xs) [] same = absurd (omega (arith, ap length same))
same_last day (x ∷ xs) (y ∷ ys) same =
    let head : x.place ≡ y.place = cc in
    let rest : map (λ w. w.place) xs ≡ map (λ w. w.place) ys = cc in
    ap₂ ◌∷◌ (ap (λ (p : Place). let z : WriterAt = record { place = p; message = last_message day p.locate } in z) head) (same_last day xs ys rest)

-- a worker of a day has come from its first message to where it is now, and what became of each was noted
pub record IsUnderWay (day : List (List ℕ)) (parts : DayParts) (worker : ℕ) (writers : List WriterAt) (now : Working) (pieces : List Piece) : Type 0 where
  pub stands : IsWorkerOf day now
  pub same_parts : now.parts ≡ parts
  pub same_worker : now.worker ≡ worker
  pub same_places : places_of now ≡ map (λ w. w.place) writers
  pub noted : pieces ≡ map (piece_of day) (take now.done (own_of parts.workers worker day))

module _ (day : List (List ℕ)) (parts : DayParts) (worker : ℕ) (writers : List WriterAt) (now after : Working) (pieces : List Piece) (under : IsUnderWay day parts worker writers now pieces) where
  own : messages_of day now ≡ own_of parts.workers worker day
  own = ap₂ (λ (p : DayParts) (k : ℕ). own_of p.workers k day) under.same_parts under.same_worker

  pub under_way_more : (piece : Piece) (more : List Piece) → TakesTurn day now after (Some piece) → more ≡ pieces ++ piece ∷ [] → IsUnderWay day parts worker writers after more
  under_way_more piece more turn pushed =
      let one : piece ≡ piece_of day (get_or (own_of parts.workers worker day) now.done 0) = turn.piece_is ∙ ap (λ (ns : List ℕ). piece_of day (get_or ns now.done 0)) own in
      record {
        stands = turn.stands;
        same_parts = turn.same_parts ∙ under.same_parts;
        same_worker = turn.same_worker ∙ under.same_worker;
        same_places = turn.same_places ∙ under.same_places;
        noted =
            pushed ∙ ap₂ (λ (ps : List Piece) (p : Piece). ps ++ p ∷ []) under.noted one
            ∙ sym (map-append (piece_of day) (take now.done (own_of parts.workers worker day)) _)
            ∙ ap (map (piece_of day)) (sym (take_more (own_of parts.workers worker day) now.done 0 (omega (arith, turn.more, ap length own))))
            ∙ ap (λ (d : ℕ). map (piece_of day) (take d (own_of parts.workers worker day))) (sym turn.moved);
      }

  -- a worker that is through
  pub finished : TakesTurn day now after None → IsFinished day parts worker writers pieces after.stocks after.writers
  finished none =
      let all = none.0 in
      let codes : codes_of now ≡ codes_of (first_working parts worker writers) = ap₂ (λ (p : DayParts) (k : ℕ). codes_of (first_working p k writers)) under.same_parts under.same_worker in
      record {
        pieces_are = under.noted ∙ ap (map (piece_of day)) (take_all now.done (own_of parts.workers worker day) (omega (arith, all, ap length own)));
        stocks_are = ap (λ (w : Working). w.stocks) none.1 ∙ last_stocks day now under.stands all ∙ ap (map (last_machine day)) codes;
        writers_are =
            ap (λ (w : Working). w.writers) none.1 ∙ last_each day (codes_of now) now.writers (last_writers day now under.stands all)
            ∙ same_last day now.writers writers under.same_places;
      }

-- the cells are the board's
pub on_board : (board : List CellId) (writers : List WriterAt) (now : Working) → All (λ w. IsOn board w.place) writers → places_of now ≡ map (λ w. w.place) writers → All (IsOn board) (places_of now)
on_board board writers now on same = subst (All (IsOn board)) (sym same) (All-map (IsOn board) (λ w. w.place) writers on)
