use Rattle.std.proofs.Common.{ap}
use Rattle.std.specs.FinMap as maps
use Rattle.itch_table.specs.KeySets.{KeySet}
use Rattle.itch_table.specs.World.{key_cmp}
use Rattle.itch_table.proofs.Keys.{key_total, key_exact}
use Rattle.itch_table.proofs.SetViews.{set_remove}
use Rattle.itch_table.proofs.rows.Rows.unspend.Goals as goal

pub returns : goal.returns
returns g c =
    let inside = c.self.inside in
    rw (← c.self.view_is) (
    ap (λ (s : KeySet key_cmp). record { orders = maps.from_entries inside.orders.entries; spent = s; trades = inside.trades.items; stocks = maps.from_entries inside.stocks.entries; event = inside.event })
    (set_remove key_total key_exact inside.spent.keys c.remove.new.self.keys _ c.remove.ensures.updates.0)
    )
