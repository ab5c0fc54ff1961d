use Rattle.std.proofs.Common.{◌≡◌, Option, Some, ap, sym, ◌∙◌}
use Rattle.std.specs.Option.{is_some, unwrap_or}
use Rattle.std.specs.FinMap as maps
use Rattle.itch_table.specs.Table.{no_order}
use Rattle.itch_table.specs.declared.order.OrderRow.{OrderRow}
use Rattle.stock_machine.proofs.Keyed.{live_keyed}
use Rattle.stock_machine.proofs.LiveSpent.{reduced_spent}
use Rattle.stock_machine.proofs.Owned.{held_reduce}
use Rattle.stock_machine.proofs.rows.RowsStore.reduce_order.Goals as goal

pub reduce_found-requires-clause-live : goal.reduce_found-requires-clause-live
reduce_found-requires-clause-live g c =
    let here : c.args._locate ≡ c.args.self.now.locate = c.requires.here in
    let i = c.self.inside in
    sym (live_keyed i.locate c.args.reference i.book) ∙ (rw (here, ← c.self.view_is) at c.requires.live)

pub returns : goal.returns
returns g c =
    let here : c.args._locate ≡ c.args.self.now.locate = c.requires.here in
    let i = c.self.inside in
    let row = c.args.found.row in
    let there : maps.get i.book c.args.reference ≡ Some row = sym (live_keyed i.locate c.args.reference i.book) ∙ (rw (here, ← c.self.view_is) at c.requires.live) in
    rw (here, ← c.self.view_is) (
    held_reduce i.locate i.book i.spent i.trades i.known c.args.reference c.args.shares row _ (ap (λ (o : Option OrderRow). unwrap_or o no_order) there) c.reduce_found.ensures
    )

pub invariant_of-self : goal.invariant_of-self
invariant_of-self g c =
    let here : c.args._locate ≡ c.args.self.now.locate = c.requires.here in
    let i = c.self.inside in
    let there : maps.get i.book c.args.reference ≡ Some c.args.found.row = sym (live_keyed i.locate c.args.reference i.book) ∙ (rw (here, ← c.self.view_is) at c.requires.live) in
    reduced_spent i.book i.spent c.self.invariant c.args.reference c.args.shares _ _ (ap is_some there) c.reduce_found.ensures
