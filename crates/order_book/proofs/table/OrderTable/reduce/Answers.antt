use Rattle.std.proofs.Common.{arith, ap, sym, ◌∙◌}
use Rattle.std.specs.FinMap.{from_entries, len}
use Rattle.order_book.specs.Parts.{joined}
use Rattle.order_book.proofs.Counts.{as_many, one_fewer}
use Rattle.order_book.proofs.Live.{reduced_part, reduced_whole}
use Rattle.order_book.proofs.table.OrderTable.reduce.Goals as goal

pub overflow_sub-self : goal.overflow_sub-self
overflow_sub-self g c =
    let orders = joined c.self.inside.rising (from_entries c.self.inside.others.entries) in
    omega (arith, c.self.invariant.1, one_fewer orders c.args.reference c.reduce_either-row.result c.reduce_either-row.ensures.row)

pub invariant_of-self : goal.invariant_of-self
invariant_of-self g c =
    let orders = joined c.self.inside.rising (from_entries c.self.inside.others.entries) in
    let row = c.reduce_either-row.result in
    let gone = c.reduce_either-row.ensures.left ∙ reduced_whole orders c.args.reference row c.args.shares c.if-row-shares.true in (
      c.reduce_either-row.ensures.apart,
      omega (arith, c.self.invariant.1, ap len gone, one_fewer orders c.args.reference row c.reduce_either-row.ensures.row),
    )

pub invariant_of-self-else-row-shares : goal.invariant_of-self-else-row-shares
invariant_of-self-else-row-shares g c =
    let orders = joined c.self.inside.rising (from_entries c.self.inside.others.entries) in
    let row = c.reduce_either-row.result in
    let left = c.reduce_either-row.ensures.left ∙ reduced_part orders c.args.reference row c.args.shares c.if-row-shares.false in (
      c.reduce_either-row.ensures.apart,
      c.self.invariant.1 ∙ sym (ap len left ∙ as_many orders c.args.reference row c.reduce_either-row.ensures.row _),
    )
