use Rattle.std.proofs.Common.{Option, ap, sym, ◌∙◌}
use Rattle.itch_table.specs.World.{status, status_of}
use Rattle.itch_table.specs.declared.status.StockRow.{StockRow}
use Rattle.stock_machine.specs.StockRows.{StockRows}
use Rattle.stock_machine.proofs.OwnRows.{stock_own}
use Rattle.stock_machine.proofs.rows.Rows.status.Goals as goal

pub returns : goal.returns
returns g c =
    let i = c.self.inside in
    c.of.ensures ∙ ap (λ (known : Option StockRow). status_of known) (sym (stock_own i.locate i.known)) ∙ ap (λ (o : StockRows). status o.world o.locate) c.self.view_is
