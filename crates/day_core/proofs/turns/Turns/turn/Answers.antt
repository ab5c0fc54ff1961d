use Rattle.std.proofs.Common.{◌≡◌, ◌+◌, ℕ, List, get_or, set, Some, refl, ap, sym, subst, ◌∙◌, arith}
use Rattle.std.proofs.lemmas.List.{get_or_default, set-get_or}
use Rattle.itch_table.specs.Shows.{words_of}
use Rattle.stock_machine.specs.StockRows.{StockMachine}
use Rattle.day_core.specs.Owners.{piece_of}
use Rattle.day_core.specs.Turns.{AreTurns, HasNone, MayGrowAt, TurnsState, TurnsWorker, state_of, workers_of}
use Rattle.day_core.proofs.MachineSteps.{on_err, top_is, is_there, next_listed}
use Rattle.day_core.proofs.Progress.{own_few}
use Rattle.day_core.proofs.TurnInvariant.{all_done, cells_long, comes, due_there, machine_then, may_grow, stocks_long, turns_then}
use Rattle.day_core.proofs.turns.Turns.turn.Goals as goal

pub returns-in_default-clause-turned : goal.returns-in_default-clause-turned
returns-in_default-clause-turned g c =
    (subst (λ (t : TurnsState). HasNone t c.args.worker) c.self.view_is (λ one. all_done c.self.invariant one c.index.result.now c.index.ensures (rw c.in_default.is at c.next.ensures)), refl)

pub unwrap-place-requires : goal.unwrap-place-requires
unwrap-place-requires g c = is_there _ c.index_of.result (next_listed c.self.invariant.parts_are c.in-Some.ensures) c.index_of.ensures

pub index_mut-stock-requires : goal.index_mut-stock-requires
index_mut-stock-requires g c =
    let come = comes c.self.invariant (omega (arith, c.if-index-len.false)) c.index.result.now c.index.ensures c.in-Some.ensures (rw c.unwrap-place.ensures at c.index_of.ensures) in
    omega (arith, stocks_long come, c.self.inside.stocks.ok.0)

pub do_message-requires : goal.do_message-requires
do_message-requires g c =
    let come = comes c.self.invariant (omega (arith, c.if-index-len.false)) c.index.result.now c.index.ensures c.in-Some.ensures (rw c.unwrap-place.ensures at c.index_of.ensures) in
    due_there come c.index_mut-stock.result.now c.index_mut-stock.ensures.value

pub invariant_of-self : goal.invariant_of-self
invariant_of-self g c =
    let stocks = c.self.inside.stocks.items in
    let place = c.unwrap-place.result in
    let same : set stocks place c.do_message.new.stock ≡ stocks = ap (set stocks place) (c.in_err-piece.ensures.err ∙ c.index_mut-stock.ensures.value) ∙ set-get_or stocks place c.index_mut-stock.result.now in
    subst (λ (ms : List StockMachine). AreTurns (state_of c.self.inside.day.now.payloads c.self.inside.done.items) c.self.inside.parts ms c.self.inside.cells.items) (sym same) c.self.invariant

pub returns-in_err-piece-clause-grows : goal.returns-in_err-piece-clause-grows
returns-in_err-piece-clause-grows g c =
    let come = comes c.self.invariant (omega (arith, c.if-index-len.false)) c.index.result.now c.index.ensures c.in-Some.ensures (rw c.unwrap-place.ensures at c.index_of.ensures) in
    on_err c.from_residual.result _ (subst (λ (t : TurnsState). MayGrowAt t c.args.worker) c.self.view_is (may_grow come c.in_err-piece.ensures.grows))

pub index_mut-requires : goal.index_mut-requires
index_mut-requires g c =
    let come = comes c.self.invariant (omega (arith, c.if-index-len.false)) c.index.result.now c.index.ensures c.in-Some.ensures (rw c.unwrap-place.ensures at c.index_of.ensures) in
    omega (arith, cells_long come, c.self.inside.cells.ok.0)

pub overflow_add-index_mut : goal.overflow_add-index_mut
overflow_add-index_mut g c =
    let come = comes c.self.invariant (omega (arith, c.if-index-len.false)) c.index.result.now c.index.ensures c.in-Some.ensures (rw c.unwrap-place.ensures at c.index_of.ensures) in
    let turns = state_of c.self.inside.day.now.payloads c.self.inside.done.items in
    let done = c.index_mut-2.ensures.value ∙ get_or_default turns.done c.args.worker c.index_mut-2.result.now 0 come.one in
    omega (arith, done, come.is.more, own_few (workers_of turns) c.args.worker turns.day, c.self.invariant.parts_are.few)

pub invariant_of-self-2 : goal.invariant_of-self-2
invariant_of-self-2 g c =
    let come = comes c.self.invariant (omega (arith, c.if-index-len.false)) c.index.result.now c.index.ensures c.in-Some.ensures (rw c.unwrap-place.ensures at c.index_of.ensures) in
    let turns = state_of c.self.inside.day.now.payloads c.self.inside.done.items in
    let place = c.unwrap-place.result in
    let next = c.in-Some.next in
    let stock = c.do_message.new.stock in
    let done = c.index_mut-2.ensures.value ∙ get_or_default turns.done c.args.worker c.index_mut-2.result.now 0 come.one in
    let machine = machine_then come c.index_mut-stock.result.now stock c.index_mut-stock.ensures.value c.in_ok-piece.ensures.done in
    let shows = c.to_words.ensures ∙ ap (words_of next.message) (c.top.ensures ∙ top_is turns.day next.locate next.message stock machine) in
    subst (λ (n : ℕ). AreTurns (state_of turns.day (set turns.done c.args.worker (n + 1))) c.self.inside.parts (set c.self.inside.stocks.items place stock) (set c.self.inside.cells.items place c.to_words.result)) (sym done)
    (turns_then come stock c.to_words.result machine shows)

pub returns-clause-turned : goal.returns-clause-turned
returns-clause-turned g c =
    let come = comes c.self.invariant (omega (arith, c.if-index-len.false)) c.index.result.now c.index.ensures c.in-Some.ensures (rw c.unwrap-place.ensures at c.index_of.ensures) in
    let turns = state_of c.self.inside.day.now.payloads c.self.inside.done.items in
    let new : TurnsState = state_of turns.day (set turns.done c.args.worker (c.index_mut-2.result.now + 1)) in
    let done = c.index_mut-2.ensures.value ∙ get_or_default turns.done c.args.worker c.index_mut-2.result.now 0 come.one in
    let piece = c.in_ok-piece.ensures.piece ∙ ap (piece_of turns.day) come.is.message_is in
    let moved : new ≡ record turns { done = set turns.done c.args.worker (get_or turns.done c.args.worker 0 + 1) } = ap (λ (n : ℕ). state_of turns.day (set turns.done c.args.worker (n + 1))) done in
    subst (λ (t : TurnsState). TurnsWorker t new c.args.worker (Some c.in_ok-piece.piece)) c.self.view_is (come.one, come.is.more, piece, moved)
