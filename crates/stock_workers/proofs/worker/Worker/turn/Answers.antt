use Rattle.std.proofs.Common.{◌≡◌, ◌+◌, ◌≤◌, List, All, length, refl, ap, sym, subst, set, ◌∙◌, arith, rules}
use Rattle.std.specs.List.{Contains}
use Rattle.std.proofs.lemmas.List.{set-get_or}
use Rattle.stock_machine.specs.StockRows.{StockMachine}
use Rattle.day_core.proofs.MachineSteps.{on_err, is_there}
use Rattle.top_cell.specs.Boards.{IsOn}
use Rattle.stock_workers.specs.Working.{HasTurned, IsWorkerOf, MayGrowNext, Working, codes_of, messages_of, places_of}
use Rattle.stock_workers.proofs.WorkerInvariant.{comes, due_there, few_done, later, machine_then, may_grow, own_board, own_listed, stocks_long, through, top_there, turned, within_day, working, writers_long}
use Rattle.stock_workers.proofs.worker.Worker.turn.Goals as goal

pub next-requires : goal.next-requires
next-requires g c = (subst (IsWorkerOf c.args.day.now.payloads) (sym c.self.view_is) c.requires.day).parts_are

pub returns-in_default-clause-turned : goal.returns-in_default-clause-turned
returns-in_default-clause-turned g c =
    let day = c.args.day.now.payloads in
    (through c.requires.day (subst (λ (v : Working). length (messages_of day v) ≤ v.done) c.self.view_is (rw c.in_default.is at c.next.ensures)), refl)

pub unwrap-place-requires : goal.unwrap-place-requires
unwrap-place-requires g c =
    let is = subst (IsWorkerOf c.args.day.now.payloads) (sym c.self.view_is) c.requires.day in
    is_there _ c.index_of.result (subst (λ (v : Working). Contains (codes_of v) c.in-Some.next.locate) c.self.view_is (own_listed is c.in-Some.ensures)) c.index_of.ensures

pub index_mut-stock-requires : goal.index_mut-stock-requires
index_mut-stock-requires g c =
    let come = comes c.self.view_is c.requires.day c.in-Some.ensures (rw c.unwrap-place.ensures at c.index_of.ensures) in
    omega (arith, stocks_long _ _ come.is c.unwrap-place.result _ come.found, c.self.inside.stocks.ok.0)

pub do_message-requires : goal.do_message-requires
do_message-requires g c =
    let come = comes c.self.view_is c.requires.day c.in-Some.ensures (rw c.unwrap-place.ensures at c.index_of.ensures) in
    due_there come c.index_mut-stock.result.now c.index_mut-stock.ensures.value

pub returns-in_err-piece : goal.returns-in_err-piece
returns-in_err-piece g c =
    let come = comes c.self.view_is c.requires.day c.in-Some.ensures (rw c.unwrap-place.ensures at c.index_of.ensures) in
    let w = working c.self.inside.parts.now c.self.inside.worker c.self.inside.done c.self.inside.stocks.items c.self.inside.writers.items in
    let place = c.unwrap-place.result in
    let same : set w.stocks place c.do_message.new.stock ≡ w.stocks = ap (set w.stocks place) (c.in_err-piece.ensures.err ∙ c.index_mut-stock.ensures.value) ∙ set-get_or w.stocks place c.index_mut-stock.result.now in
    let unchanged = ap (λ (ms : List StockMachine). let v : Working = record w { stocks = ms } in v) same ∙ c.self.view_is in
    record {
      turned = search rules;
      stands = subst (IsWorkerOf c.args.day.now.payloads) (sym unchanged) c.requires.day;
      same = ap places_of unchanged;
      err = on_err c.from_residual.result _ unchanged;
      grows = on_err c.from_residual.result _ (subst (MayGrowNext c.args.day.now.payloads) c.self.view_is (may_grow come c.in_err-piece.ensures.grows));
    }

pub index_mut-requires : goal.index_mut-requires
index_mut-requires g c =
    let come = comes c.self.view_is c.requires.day c.in-Some.ensures (rw c.unwrap-place.ensures at c.index_of.ensures) in
    omega (arith, writers_long _ _ come.is c.unwrap-place.result _ come.found, c.self.inside.writers.ok.0)

pub publish-requires : goal.publish-requires
publish-requires g c =
    let come = comes c.self.view_is c.requires.day c.in-Some.ensures (rw c.unwrap-place.ensures at c.index_of.ensures) in
    let machine = machine_then come c.index_mut-stock.result.now c.index_mut-stock.ensures.value c.do_message.new.stock c.in_ok-piece.ensures.done in
    let t = c.index_mut.result.now in
    let there = c.index_mut.ensures.value in
    record {
      own = own_board come t there c.args.board.now (subst (λ (v : Working). All (IsOn c.args.board.now) (places_of v)) (sym c.self.view_is) c.requires.board);
      later = later come t there;
      within = within_day come t there;
      top = top_there come t there c.do_message.new.stock c.top.result machine c.top.ensures;
    }

pub overflow_add-self : goal.overflow_add-self
overflow_add-self g c =
    let come = comes c.self.view_is c.requires.day c.in-Some.ensures (rw c.unwrap-place.ensures at c.index_of.ensures) in
    omega (arith, few_done come)

pub returns : goal.returns
returns g c =
    let come = comes c.self.view_is c.requires.day c.in-Some.ensures (rw c.unwrap-place.ensures at c.index_of.ensures) in
    let w = working c.self.inside.parts.now c.self.inside.worker c.self.inside.done c.self.inside.stocks.items c.self.inside.writers.items in
    let machine = machine_then come c.index_mut-stock.result.now c.index_mut-stock.ensures.value c.do_message.new.stock c.in_ok-piece.ensures.done in
    let then : Working = record w { done = w.done + 1; stocks = set w.stocks c.unwrap-place.result c.do_message.new.stock; writers = set w.writers c.unwrap-place.result c.publish.new.self } in
    let done = turned come c.index_mut.result.now c.index_mut.ensures.value c.do_message.new.stock c.publish.new.self machine c.publish.ensures c.in_ok-piece.piece c.in_ok-piece.ensures.piece in
    record {
      turned = subst (λ (v : Working). HasTurned c.args.day.now.payloads v then c.in_ok-piece.piece) c.self.view_is done;
      stands = done.stands;
      same = done.same_places ∙ ap places_of c.self.view_is;
      err = tt;
      grows = tt;
    }
