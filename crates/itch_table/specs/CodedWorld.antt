-- A code for worlds, by which proofs tell them apart.
use Rattle.std.specs.Prelude.{ℕ, List, Option, refl}
use Rattle.std.specs.Coded.{Coded, code_by, coded×, coded_list, coded_option, coded_ℕ}
use Rattle.std.specs.FinMap as maps
use Rattle.std.specs.FinMap.{FinMap}
use Rattle.std.specs.Ordering.{nat_cmp}
use Rattle.itch_table.specs.KeySets.{KeySet, coded_keys}
use Rattle.itch_table.specs.World.{World, coded_key, key_cmp}
use Rattle.itch_table.specs.contracts.order.OrderRow as order_row
use Rattle.itch_table.specs.contracts.status.StockRow as stock_row
use Rattle.itch_table.specs.contracts.trades.TradeRow as trade_row
use Rattle.itch_table.specs.declared.order.OrderRow.{OrderRow}
use Rattle.itch_table.specs.declared.status.StockRow.{StockRow}
use Rattle.itch_table.specs.declared.trades.TradeRow.{TradeRow}

-- a world as the tuple of its fields
abbrev pub coded_world : Coded World
coded_world =
    code_by (FinMap key_cmp OrderRow
    × (KeySet key_cmp × (List (ℕ × TradeRow) × (FinMap nat_cmp StockRow × Option ℕ))))
    (coded× (maps.code coded_key order_row.the_row.coded)
    (coded× (coded_keys coded_key)
    (coded× (coded_list (coded× coded_ℕ trade_row.the_row.coded))
    (coded× (maps.code coded_ℕ stock_row.the_row.coded) (coded_option coded_ℕ)))))
    (λ w. (w.orders, (w.spent, (w.trades, (w.stocks, w.event)))))
    (λ p. record { orders = p.0; spent = p.1.0; trades = p.1.1.0; stocks = p.1.1.1.0; event = p.1.1.1.1 })
    (λ _. refl)
