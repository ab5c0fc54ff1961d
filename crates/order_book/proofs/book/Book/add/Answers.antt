use Rattle.std.proofs.Common.{◌≡◌, ◌<◌, ◌^◌, None, arith}
use Rattle.std.specs.FinMap as maps
use Rattle.itch_table.specs.World.{order_under, row_of}
use Rattle.order_book.proofs.Counts.{one_more}
use Rattle.order_book.proofs.Keeps.{has_room, kept_insert, kept_same}
use Rattle.order_book.proofs.Live.{none_of}
use Rattle.order_book.proofs.book.Book.add.Goals as goal

pub insert-requires-clause-new : goal.insert-requires-clause-new
insert-requires-clause-new g c =
    rw c.self.view_is (none_of (order_under c.args.order.reference) _ c.requires.new)

pub raise-requires-clause-fits : goal.raise-requires-clause-fits
raise-requires-clause-fits g c =
    let order = c.args.order in
    has_room (kept_same c.self.invariant.1 c.reserve.ensures.same) order.side order.price order.shares c.self.invariant.0 (omega arith)

pub invariant_of-self-2 : goal.invariant_of-self-2
invariant_of-self-2 g c =
    let orders = c.args.self.now in
    let order = c.args.order in
    let kept = rw c.self.view_is at c.self.invariant.1 in
    let none : maps.get orders order.reference ≡ None = none_of (order_under order.reference) _ c.requires.new in
    let fits : order.shares < 2 ^ 32 = omega arith in
    rw (c.in_ok-insert.ensures.ok, c.self.view_is) (
      omega (arith, c.requires.few, one_more orders order.reference (row_of order) none),
      kept_insert (kept_same kept c.reserve.ensures.same) order.reference (row_of order) none fits c.raise.ensures,
    )
