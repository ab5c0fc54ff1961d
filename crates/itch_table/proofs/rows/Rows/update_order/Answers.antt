use Rattle.std.proofs.Common.{rules, ◌≡◌, None, ap, sym, ◌∙◌}
use mathlib.Core.Bool.{false≢true}
use Rattle.std.specs.FinMap as maps
use Rattle.itch_table.specs.KeySets.{set_of}
use Rattle.itch_table.specs.World.{World, live, key}
use Rattle.itch_table.proofs.Keys.{key_total, key_exact}
use Rattle.itch_table.proofs.MapViews.{view_insert, get_view}
use Rattle.itch_table.proofs.rows.Rows.update_order.Goals as goal
use Rattle.itch_table.proofs.rows.Rows.update_order.Goals.{in-Some, in_default}

pub returns : goal.returns
returns g c =
    let inside = c.self.inside in
    let row = c.args.row in
    elim c.match-get_mut.branch [
      | in-Some w ↦ rw (w.self-inside-is, ← c.self.view_is) (
          ap (λ m. record { orders = m; spent = set_of inside.spent.keys; trades = inside.trades.items; stocks = maps.from_entries inside.stocks.entries; event = inside.event })
          (view_insert key_total key_exact inside.orders.entries (c.get_mut.follows.lender row).entries (key c.args.locate c.args.reference) row (((c.get_mut.follows.holds row).3 (search rules)).0))
          )
      | in_default w ↦
          let none : live c.args.self.now c.args.locate c.args.reference ≡ None =
          ap (λ (v : World). live v c.args.locate c.args.reference) (sym c.self.view_is) ∙ get_view key_total inside.orders.entries (key c.args.locate c.args.reference)
          ∙ sym (w.in_default.ensures {u = tt}).value in
          absurd (false≢true (rw none at c.requires))
    ]
