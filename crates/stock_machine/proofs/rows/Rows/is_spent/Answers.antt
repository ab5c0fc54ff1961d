use Rattle.std.proofs.Common.{ap, sym, ◌∙◌}
use Rattle.itch_table.specs.World.{is_spent}
use Rattle.stock_machine.specs.StockRows.{StockRows}
use Rattle.stock_machine.proofs.OwnRows.{spent_own}
use Rattle.stock_machine.proofs.rows.Rows.is_spent.Goals as goal

pub returns : goal.returns
returns g c =
    let i = c.self.inside in
    c.contains.ensures ∙ sym (spent_own i.locate i.book i.spent i.trades i.known c.args.reference)
    ∙ ap (λ (o : StockRows). is_spent o.world o.locate c.args.reference) c.self.view_is
