use Rattle.std.proofs.Common.{arith, refl}
use Rattle.order_book.proofs.Counts.{one_fewer}
use Rattle.order_book.proofs.Keeps.{kept_remove, shares_among}
use Rattle.order_book.proofs.book.Book.remove_found.Goals as goal

pub remove-row-requires : goal.remove-row-requires
remove-row-requires g c = rw (c.self.view_is, c.requires) refl

pub lower-requires : goal.lower-requires
lower-requires g c = shares_among c.self.invariant.1 c.args.reference c.remove-row.result c.remove-row.ensures.row

pub invariant_of-self : goal.invariant_of-self
invariant_of-self g c =
    let there = c.remove-row.ensures.row in
    rw c.remove-row.ensures.gone (
      omega (arith, c.self.invariant.0, one_fewer c.self.inside.orders c.args.reference c.remove-row.result there),
      kept_remove c.self.invariant.1 c.args.reference c.remove-row.result there c.lower.ensures,
    )
