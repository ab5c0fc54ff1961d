use Rattle.std.proofs.Common.{ap}
use Rattle.std.specs.Cmp.{nat_cmp_total}
use Rattle.std.specs.FinMap as maps
use Rattle.std.specs.FinMap.{nat_cmp-IsAntisymmetric}
use Rattle.itch_table.specs.KeySets.{set_of}
use Rattle.itch_table.specs.Held.{all_stocks}
use Rattle.itch_table.proofs.MapViews.{view_insert}
use Rattle.itch_table.proofs.rows.RowsStore.set_stock.Goals as goal
use Rattle.itch_table.proofs.rows.RowsStore.set_stock.Goals.{in-Ok, in-Err}

pub returns-clause-ok : goal.returns-clause-ok
returns-clause-ok g c =
    let inside = c.self.inside in
    elim c.match-insert.branch [
      | in-Ok w ↦ rw (w.result-is, ← c.self.view_is) (
          ap (λ m. all_stocks (record { orders = maps.from_entries inside.orders.entries; spent = set_of inside.spent.keys; trades = inside.trades.items; stocks = m; event = inside.event }))
          (view_insert nat_cmp_total nat_cmp-IsAntisymmetric inside.stocks.entries c.insert.new.self.entries _ _ ((w.in-Ok.ensures {u = tt}).updates.0))
          )
      | in-Err w ↦ rw w.result-is tt
    ]
