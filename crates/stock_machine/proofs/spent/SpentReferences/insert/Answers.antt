use Rattle.std.proofs.Common.{◌∙◌, ap, List, ℕ, ◌++◌}
use Rattle.std.specs.Ordering.{nat_cmp}
use Rattle.itch_table.specs.KeySets.{set_of, with_key}
use Rattle.stock_machine.proofs.SpentLists.{other, rise}
use Rattle.stock_machine.proofs.spent.SpentReferences.insert.Goals as goal

pub returns-clause-ok : goal.returns-clause-ok
returns-clause-ok g c =
    let i = c.self.inside in
    let same = rw c.deref.ensures.value at c.first_with-first.ensures in
    rw (c.in_ok-push.ensures.items, ← c.self.view_is) (
    rise c.args.reference c.first_with-first.result i.distances.items i.others.keys c.in-Some.distance c.in-Some.ensures.some
    ∙ ap (λ (references : List ℕ). with_key (set_of {R = nat_cmp} (references ++ i.others.keys)) c.args.reference) same
    )

pub returns-2-clause-ok : goal.returns-2-clause-ok
returns-2-clause-ok g c =
    let i = c.self.inside in
    rw (← c.self.view_is) (
    other c.args.reference i.first i.distances.items i.others.keys c.insert.new.self.keys ((c.in_ok-insert.ensures {u = tt}).updates.0)
    )
