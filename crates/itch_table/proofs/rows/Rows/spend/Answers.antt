use Rattle.std.proofs.Common.{ap}
use Rattle.std.specs.FinMap as maps
use Rattle.itch_table.specs.KeySets.{KeySet}
use Rattle.itch_table.specs.World.{key_cmp}
use Rattle.itch_table.proofs.Keys.{key_total, key_exact}
use Rattle.itch_table.proofs.SetViews.{set_insert}
use Rattle.itch_table.proofs.rows.Rows.spend.Goals as goal
use Rattle.itch_table.proofs.rows.Rows.spend.Goals.{in-Ok, in-Err}

pub returns-clause-ok : goal.returns-clause-ok
returns-clause-ok g c =
    let inside = c.self.inside in
    elim c.match-insert.branch [
      | in-Ok w ↦ rw (w.result-is, ← c.self.view_is) (
          ap (λ (s : KeySet key_cmp). record { orders = maps.from_entries inside.orders.entries; spent = s; trades = inside.trades.items; stocks = maps.from_entries inside.stocks.entries; event = inside.event })
          (set_insert key_total key_exact inside.spent.keys c.insert.new.self.keys _ ((w.in-Ok.ensures {u = tt}).updates.0))
          )
      | in-Err w ↦ rw w.result-is tt
    ]
