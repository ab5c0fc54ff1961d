use Rattle.std.proofs.Common.{◌≡◌, Option, ap, sym, ◌∙◌}
use Rattle.std.specs.Option.{option_map}
use Rattle.itch_table.specs.declared.order.OrderRow.{OrderRow}
use Rattle.itch_table.specs.World.{order_under}
use Rattle.stock_machine.proofs.Keyed.{live_keyed}
use Rattle.stock_machine.proofs.LiveSpent.{replaced_spent, taken_back_spent}
use Rattle.stock_machine.proofs.Owned.{held_replace, held_taken_back}
use Rattle.stock_machine.proofs.OwnRows.{spent_own}
use Rattle.stock_machine.proofs.rows.RowsStore.replace_order.Goals as goal

pub replace_found-requires-clause-live : goal.replace_found-requires-clause-live
replace_found-requires-clause-live g c =
    let here : c.args._locate ≡ c.args.self.now.locate = c.requires.here in
    let i = c.self.inside in
    sym (live_keyed i.locate c.args.old i.book) ∙ (rw (here, ← c.self.view_is) at c.requires.live)

pub replace_found-requires-clause-new : goal.replace_found-requires-clause-new
replace_found-requires-clause-new g c =
    let here : c.args._locate ≡ c.args.self.now.locate = c.requires.here in
    let i = c.self.inside in
    ap (λ (o : Option OrderRow). option_map (order_under c.args.new) o) (sym (live_keyed i.locate c.args.new i.book) ∙ (rw (here, ← c.self.view_is) at c.requires.new))

pub returns-in-Ok-clause-ok : goal.returns-in-Ok-clause-ok
returns-in-Ok-clause-ok g c =
    let here : c.args._locate ≡ c.args.self.now.locate = c.requires.here in
    let i = c.self.inside in
    rw (here, ← c.self.view_is) (
    held_replace i.locate i.book i.spent i.trades i.known c.args.old c.args.new c.args.shares c.args.price _ _ c.in-Ok.ensures.ok c.in_ok-insert.ensures.ok
    )

pub returns-in-Err-clause-err : goal.returns-in-Err-clause-err
returns-in-Err-clause-err g c =
    let here : c.args._locate ≡ c.args.self.now.locate = c.requires.here in
    let i = c.self.inside in
    let unspent = sym (spent_own i.locate i.book i.spent i.trades i.known c.args.new) ∙ (rw (here, ← c.self.view_is) at c.requires.unspent) in
    rw (← c.self.view_is) (
    held_taken_back i.locate i.book i.spent i.trades i.known c.args.new _ _ _ unspent c.in-Err.ensures.err c.in_ok-insert.ensures.ok c.remove.ensures
    )

pub invariant_of-self-in-Ok : goal.invariant_of-self-in-Ok
invariant_of-self-in-Ok g c =
    let i = c.self.inside in
    replaced_spent i.book i.spent c.self.invariant c.args.old c.args.new c.args.shares c.args.price _ _ c.in-Ok.ensures.ok c.in_ok-insert.ensures.ok

pub invariant_of-self-in-Err : goal.invariant_of-self-in-Err
invariant_of-self-in-Err g c =
    let here : c.args._locate ≡ c.args.self.now.locate = c.requires.here in
    let i = c.self.inside in
    let unspent = sym (spent_own i.locate i.book i.spent i.trades i.known c.args.new) ∙ (rw (here, ← c.self.view_is) at c.requires.unspent) in
    taken_back_spent i.book i.spent c.self.invariant c.args.new _ _ _ unspent c.in-Err.ensures.err c.in_ok-insert.ensures.ok c.remove.ensures
