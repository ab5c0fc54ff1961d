use Rattle.std.proofs.Common.{◌≡◌}
use Rattle.stock_machine.proofs.Owned.{held_stock}
use Rattle.stock_machine.proofs.rows.RowsStore.set_stock.Goals as goal

pub returns-clause-ok : goal.returns-clause-ok
returns-clause-ok g c =
    let here : c.args._locate ≡ c.args.self.now.locate = c.requires in
    let i = c.self.inside in
    rw (here, ← c.self.view_is) (held_stock i.locate i.book i.spent i.trades i.known c.args.row)
