use Rattle.std.proofs.Common.{◌≡◌, not, ap, sym, ◌∙◌}
use Rattle.stock_machine.proofs.LiveSpent.{fresh_own}
use Rattle.stock_machine.proofs.rows.RowsStore.is_fresh.Goals as goal

pub returns : goal.returns
returns g c =
    let here : c.args._locate ≡ c.args.self.now.locate = c.requires in
    let i = c.self.inside in
    ap not c.contains.ensures ∙ rw (here, ← c.self.view_is) (sym (fresh_own i.book i.spent c.self.invariant i.locate i.trades i.known c.args.reference))
