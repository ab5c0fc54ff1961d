use Rattle.std.proofs.Common.{rules, ◌≡◌, None, ap, sym, ◌∙◌}
use Rattle.std.specs.Cmp.{nat_cmp_total}
use mathlib.Core.Bool.{false≢true}
use Rattle.std.specs.FinMap as maps
use Rattle.std.specs.FinMap.{nat_cmp-IsAntisymmetric}
use Rattle.itch_table.specs.KeySets.{set_of}
use Rattle.itch_table.specs.Held.{all_stocks}
use Rattle.itch_table.specs.World.{World, stock_row}
use Rattle.itch_table.proofs.MapViews.{view_insert, get_view}
use Rattle.itch_table.proofs.rows.RowsStore.update_stock.Goals as goal
use Rattle.itch_table.proofs.rows.RowsStore.update_stock.Goals.{in-Some, in_default}

pub returns : goal.returns
returns g c =
    let inside = c.self.inside in
    let row = c.args.row in
    elim c.match-get_mut.branch [
      | in-Some w ↦ rw (w.self-inside-is, ← c.self.view_is) (
          ap (λ m. all_stocks (record { orders = maps.from_entries inside.orders.entries; spent = set_of inside.spent.keys; trades = inside.trades.items; stocks = m; event = inside.event }))
          (view_insert nat_cmp_total nat_cmp-IsAntisymmetric inside.stocks.entries (c.get_mut.follows.lender row).entries c.args.locate row (((c.get_mut.follows.holds row).3 (search rules)).0))
          )
      | in_default w ↦
          let none : stock_row c.args.self.now c.args.locate ≡ None =
          ap (λ (v : World). stock_row v c.args.locate) (sym c.self.view_is) ∙ get_view nat_cmp_total inside.stocks.entries c.args.locate
          ∙ sym (w.in_default.ensures {u = tt}).value in
          absurd (false≢true (rw none at c.requires.known))
    ]
