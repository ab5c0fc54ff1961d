use Rattle.std.proofs.Common.{length, get_or, ap, sym, ◌∙◌, arith}
use Rattle.stock_workers.specs.Working.{Working}
use Rattle.stock_workers.proofs.WorkerInvariant.{got, writer_stands, writers_long}
use Rattle.stock_workers.proofs.worker.Worker.writer.Goals as goal

pub returns-in_err-index : goal.returns-in_err-index
returns-in_err-index g c = λ day is.
    rw c.from_residual.ensures c.in_err-index.ensures

pub returns : goal.returns
returns g c = λ day is.
    let v = c.args.self.now in
    let found = c.in_ok-index.ensures in
    let items = c.deref.ensures.value ∙ ap (λ (w : Working). w.writers) c.self.view_is in
    let room = writers_long day v is c.in_ok-index.index c.args.locate found in
    got _ (λ x. x.now) c.deref.result.now c.in_ok-index.index c.get.result _ (c.get.ensures.lookup.2 (omega (arith, room, ap length items))) c.get.ensures.lookup.1 (λ x at.
    let there = at ∙ ap (λ xs. get_or xs c.in_ok-index.index x.now) items in
    (writer_stands day v is c.in_ok-index.index c.args.locate found x.now there, (c.in_ok-index.index, room, sym there)))
