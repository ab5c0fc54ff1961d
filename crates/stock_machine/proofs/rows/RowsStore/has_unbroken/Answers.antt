use Rattle.std.proofs.Common.{◌≡◌, ◌∙◌, sym}
use Rattle.stock_machine.proofs.TradesAt.{any_at}
use Rattle.stock_machine.proofs.rows.RowsStore.has_unbroken.Goals as goal

pub returns : goal.returns
returns g c =
    let here : c.args._locate ≡ c.args.self.now.locate = c.requires in
    c.has_unbroken.ensures ∙ rw (here, ← c.self.view_is) (sym (any_at c.self.inside.locate c.args.match_no c.self.inside.trades))
