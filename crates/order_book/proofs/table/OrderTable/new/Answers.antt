use Rattle.std.proofs.Common.{sym, ap, ◌∙◌}
use Rattle.std.specs.Ordering.{nat_cmp}
use Rattle.std.specs.FinMap.{get-empty, len, len-empty}
use Rattle.itch_table.specs.declared.order.OrderRow.{OrderRow}
use Rattle.order_book.proofs.Joined.{joined_empty}
use Rattle.order_book.proofs.table.OrderTable.new.Goals as goal

pub invariant_of-result : goal.invariant_of-result
invariant_of-result g c =
    rw (c.new.ensures, c.new-2.ensures.empty) (
      (λ reference some. get-empty {X = OrderRow} nat_cmp reference),
      sym (ap len joined_empty ∙ len-empty nat_cmp OrderRow),
    )

pub returns : goal.returns
returns g c = rw (c.new.ensures, c.new-2.ensures.empty) joined_empty
