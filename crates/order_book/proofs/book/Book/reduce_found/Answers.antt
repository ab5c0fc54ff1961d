use Rattle.std.proofs.Common.{◌≡◌, ◌≤◌, ap, arith}
use Rattle.itch_table.specs.declared.order.OrderRow.{OrderRow}
use Rattle.order_book.proofs.Counts.{no_more}
use Rattle.order_book.proofs.Keeps.{kept_reduced, shares_among}
use Rattle.order_book.proofs.book.Book.reduce_found.Goals as goal
use Rattle.order_book.proofs.book.Book.reduce_found.Goals.{After-reduce-row}

pub reduce-row-requires : goal.reduce-row-requires
reduce-row-requires g c = rw (c.self.view_is, c.requires.live) c.requires.enough

-- the order has the shares
enough : (g : _) (c : After-reduce-row g) → c.args.shares ≤ c.reduce-row.result.shares
enough g c =
    let there = rw c.self.view_is at c.reduce-row.ensures.row in
    let same : c.args.found.row ≡ c.reduce-row.result = cc (c.requires.live, there) in
    omega (arith, c.requires.enough, ap (λ (row : OrderRow). row.shares) same)

pub lower-requires : goal.lower-requires
lower-requires g c =
    let has = enough g (goal.at.lower-requires g c).After-reduce-row in
    omega (arith, has, shares_among c.self.invariant.1 c.args.reference c.reduce-row.result c.reduce-row.ensures.row)

pub invariant_of-self : goal.invariant_of-self
invariant_of-self g c =
    let has = enough g (goal.at.invariant_of-self g c).After-reduce-row in
    let there = c.reduce-row.ensures.row in
    rw c.reduce-row.ensures.left (
      omega (arith, c.self.invariant.0, no_more c.self.inside.orders c.args.reference c.reduce-row.result there c.args.shares),
      kept_reduced c.self.invariant.1 c.args.reference c.reduce-row.result there c.args.shares has c.lower.ensures,
    )
