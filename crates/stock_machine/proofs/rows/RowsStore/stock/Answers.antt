use Rattle.std.proofs.Common.{◌≡◌, sym, ◌∙◌}
use Rattle.stock_machine.proofs.OwnRows.{stock_own}
use Rattle.stock_machine.proofs.rows.RowsStore.stock.Goals as goal

pub returns : goal.returns
returns g c =
    let here : c.args._locate ≡ c.args.self.now.locate = c.requires in
    rw (here, ← c.self.view_is) (c.as_ref.ensures.value ∙ sym (stock_own c.self.inside.locate c.self.inside.known))
