use Rattle.std.proofs.Common.{arith}
use Rattle.std.specs.Ordering.{nat_cmp}
use Rattle.std.specs.FinMap.{len-empty}
use Rattle.itch_table.specs.declared.order.OrderRow.{OrderRow}
use Rattle.order_book.proofs.Keeps.{kept_empty}
use Rattle.order_book.proofs.book.Book.new.Goals as goal

pub invariant_of-result : goal.invariant_of-result
invariant_of-result g c = rw c.new.ensures (omega (arith, len-empty nat_cmp OrderRow), kept_empty _ c.new-2.ensures)
