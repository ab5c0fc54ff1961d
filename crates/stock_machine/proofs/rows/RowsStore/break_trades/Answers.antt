use Rattle.std.proofs.Common.{◌≡◌}
use Rattle.stock_machine.proofs.Owned.{held_broken}
use Rattle.stock_machine.proofs.rows.RowsStore.break_trades.Goals as goal

pub returns : goal.returns
returns g c =
    let here : c.args._locate ≡ c.args.self.now.locate = c.requires in
    let i = c.self.inside in
    rw (here, ← c.self.view_is) (held_broken i.locate i.book i.spent i.trades i.known c.args.match_no _ c.break_all.ensures)
