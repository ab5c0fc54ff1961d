use Rattle.std.proofs.Common.{◌≡◌, ◌≤◌, ◌∙◌, [], ℕ, ap, arith, map, sym}
use Rattle.top_cell.specs.Boards.{WriterAt}
use Rattle.stock_workers.specs.Working.{WriterState, places_of, writer_state}
use Rattle.test_stock_workers.proofs.NoWorker.{no_locates}
use Rattle.test_stock_workers.proofs.turns.no_worker.Goals as goal

pub returns-clause-worker : goal.returns-clause-worker
returns-clause-worker g c =
    let day = c.args.day.now.payloads in
    let none : c.new-2.result.items ≡ [] = c.new-2.ensures.items in
    let past : c.args.parts.now.workers ≤ c.args.number = omega (arith, c.if-number-workers.false, c.workers.ensures.workers) in
    let locates = no_locates c.args.parts.now.workers c.args.number c.args.parts.now.locates (omega (arith, c.requires.some)) past in
    c.in_ok-new.ensures.of day c.requires
    (ap (map writer_state) none ∙ sym (ap (map (λ (locate : ℕ). let state : WriterState = record { day = day; locate = locate; message = 0 } in state)) locates))

pub returns-clause-places : goal.returns-clause-places
returns-clause-places g c =
    let none : c.new-2.result.items ≡ [] = c.new-2.ensures.items in
    ap places_of c.in_ok-new.ensures.first ∙ ap (map (λ (w : WriterAt). w.place)) none
