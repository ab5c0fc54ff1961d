use Rattle.std.proofs.Common.{◌≡◌, List, sym, subst}
use Rattle.std.specs.Result.{IfOk}
use Rattle.std.proofs.lemmas.Iterator.{items_from_collect}
use Rattle.std.proofs.lemmas.Iterator.Adapters.{YieldsList-from_rev_slice}
use Rattle.std.proofs.lemmas.Iterator.Consumers.{YieldsList-from_copied}
use Rattle.itch_table.specs.declared.order.Level.{Level}
use Rattle.order_book.proofs.Listed.{listed_is}
use Rattle.order_book.proofs.ladder.Ladder.list.Goals as goal

pub returns : goal.returns
returns g c =
    let levels = c.self.inside.levels.items in
    rw (← c.self.view_is) (
    subst (λ (ls : List Level). IfOk c.collect.result (λ list. list.items ≡ ls)) (sym (listed_is c.self.inside.side levels c.self.invariant)) (
    items_from_collect _ c.collect.ensures.ran (YieldsList-from_copied (YieldsList-from_rev_slice levels (cc)))
    )
    )
