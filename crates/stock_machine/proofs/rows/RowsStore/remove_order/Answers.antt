use Rattle.std.proofs.Common.{◌≡◌, sym, ◌∙◌}
use Rattle.stock_machine.proofs.Keyed.{live_keyed}
use Rattle.stock_machine.proofs.LiveSpent.{removed_spent}
use Rattle.stock_machine.proofs.Owned.{held_remove}
use Rattle.stock_machine.proofs.rows.RowsStore.remove_order.Goals as goal

pub remove_found-requires : goal.remove_found-requires
remove_found-requires g c =
    let here : c.args._locate ≡ c.args.self.now.locate = c.requires.here in
    let i = c.self.inside in
    sym (live_keyed i.locate c.args.reference i.book) ∙ (rw (here, ← c.self.view_is) at c.requires.live)

pub returns : goal.returns
returns g c =
    let here : c.args._locate ≡ c.args.self.now.locate = c.requires.here in
    let i = c.self.inside in
    rw (here, ← c.self.view_is) (held_remove i.locate i.book i.spent i.trades i.known c.args.reference _ c.remove_found.ensures)

pub invariant_of-self : goal.invariant_of-self
invariant_of-self g c = removed_spent c.self.inside.book c.self.inside.spent c.self.invariant c.args.reference _ c.remove_found.ensures
