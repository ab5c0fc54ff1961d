use Rattle.std.proofs.Common.{◌≡◌, Option, Some, None, ap, arith, refl, sym, ◌∙◌}
use Rattle.std.specs.Cmp.{nat_cmp_total}
use Rattle.std.specs.Option.{unwrap_or}
use Rattle.std.specs.FinMap as maps
use Rattle.std.specs.FinMap.{nat_cmp-IsAntisymmetric}
use Rattle.itch_table.specs.Table.{no_order}
use Rattle.itch_table.specs.World.{order_under}
use Rattle.itch_table.specs.declared.order.OrderRow.{OrderRow}
use Rattle.itch_table.proofs.MapViews.{remove-insert}
use Rattle.order_book.specs.Kept.{AreChanged, BothSides, LevelsAreKept, raised}
use Rattle.order_book.specs.Orders.{added}
use Rattle.order_book.proofs.Counts.{one_fewer, one_more}
use Rattle.order_book.proofs.Keeps.{has_room, kept_insert, kept_remove, kept_same, shares_among}
use Rattle.order_book.proofs.Live.{apart_from_live, none_of, still_live}
use Rattle.order_book.proofs.book.Book.replace_found.Goals as goal
use Rattle.order_book.proofs.book.Book.replace_found.Goals.{In_ok-insert}

pub insert-requires-clause-new : goal.insert-requires-clause-new
insert-requires-clause-new g c =
    rw (c.under.ensures, c.self.view_is) (none_of (order_under c.args.new) _ c.requires.new)

-- ---- once the new order has come

-- the old order as it was, and the one that takes its place
there : (g : _) (c : In_ok-insert g) → maps.get c.self.inside.orders c.args.old ≡ Some c.args.found.row
there g c = rw c.self.view_is c.requires.live

abbrev placed : (g : _) (c : In_ok-insert g) → OrderRow
placed g c = record c.args.found.row { shares = c.args.shares; price = c.args.price }

free : (g : _) (c : In_ok-insert g) → maps.get c.self.inside.orders c.args.new ≡ None
free g c = rw c.self.view_is (none_of (order_under c.args.new) _ c.requires.new)

came : (g : _) (c : In_ok-insert g) → c.insert.new.self ≡ maps.insert c.self.inside.orders c.args.new (placed g c)
came g c = c.in_ok-insert.ensures.ok ∙ ap (added c.self.inside.orders) c.under.ensures

stays : (g : _) (c : In_ok-insert g) → maps.get (maps.insert c.self.inside.orders c.args.new (placed g c)) c.args.old ≡ Some c.args.found.row
stays g c = still_live c.self.inside.orders c.args.old c.args.new c.args.found.row (there g c) (free g c) (placed g c)

pub remove-requires : goal.remove-requires
remove-requires g c =
    let with = (goal.at.remove-requires g c).In_ok-insert in
    rw (came g with, stays g with) refl

pub raise-requires-clause-fits : goal.raise-requires-clause-fits
raise-requires-clause-fits g c =
    has_room (kept_same c.self.invariant.1 c.reserve.ensures.same) c.args.found.row.side c.args.price c.args.shares c.self.invariant.0 (omega arith)

kept : (g : _) (c : In_ok-insert g) {new : BothSides}
    → AreChanged c.reserve.new.self new c.args.found.row.side (λ levels. raised levels c.args.price c.args.shares)
    → LevelsAreKept (maps.insert c.self.inside.orders c.args.new (placed g c)) new
kept g c changed = kept_insert (kept_same c.self.invariant.1 c.reserve.ensures.same) c.args.new (placed g c) (free g c) (omega arith) changed

pub lower-requires : goal.lower-requires
lower-requires g c =
    let with = (goal.at.lower-requires g c).In_ok-insert in
    shares_among (kept g with c.raise.ensures) c.args.old c.args.found.row (stays g with)

-- one order came, and one went
pub invariant_of-self-2 : goal.invariant_of-self-2
invariant_of-self-2 g c =
    let with = (goal.at.invariant_of-self-2 g c).In_ok-insert in
    let orders = c.self.inside.orders in
    let went = c.remove.ensures.gone ∙ ap (λ o. maps.remove o c.args.old) (came g with) in
    let more = one_more orders c.args.new (placed g with) (free g with) in
    let fewer = one_fewer (maps.insert orders c.args.new (placed g with)) c.args.old c.args.found.row (stays g with) in
    rw went (
      omega (arith, c.self.invariant.0, more, fewer),
      kept_remove (kept g with c.raise.ensures) c.args.old c.args.found.row (stays g with) c.lower.ensures,
    )

pub returns-clause-ok : goal.returns-clause-ok
returns-clause-ok g c =
    let with = (goal.at.returns-clause-ok g c).In_ok-insert in
    let orders = c.self.inside.orders in
    let old = c.args.old in
    let new = c.args.new in
    rw (← c.self.view_is) (
    c.remove.ensures.gone ∙ ap (λ o. maps.remove o old) (came g with)
    ∙ remove-insert nat_cmp_total nat_cmp-IsAntisymmetric orders old new (placed g with) (apart_from_live orders old new c.args.found.row (there g with) (free g with))
    ∙ ap (λ (o : Option OrderRow). maps.insert (maps.remove orders old) new (record (unwrap_or o no_order) { shares = c.args.shares; price = c.args.price })) (sym (there g with))
    )
