use Rattle.std.proofs.Common.{◌≡◌, ◌∙◌, sym}
use Rattle.stock_machine.proofs.Keyed.{live_keyed}
use Rattle.stock_machine.proofs.rows.RowsStore.order.Goals as goal

pub returns : goal.returns
returns g c =
    let here : c.args._locate ≡ c.args.self.now.locate = c.requires in
    c.find.ensures ∙ rw (here, ← c.self.view_is) (sym (live_keyed c.self.inside.locate c.args.reference c.self.inside.book))
