use Rattle.std.proofs.Common.{◌≡◌, length, ap, arith}
use Rattle.std.proofs.lemmas.Result.{on_ok_weaker}
use Rattle.stock_machine.specs.StockRows.{StockRows}
use Rattle.stock_machine.proofs.Owned.{held_push}
use Rattle.stock_machine.proofs.TradesAt.{length_at}
use Rattle.stock_machine.proofs.rows.RowsStore.add_trade.Goals as goal

pub push-requires : goal.push-requires
push-requires g c =
    let i = c.self.inside in
    omega (arith, length_at i.locate i.trades, ap (λ (o : StockRows). length o.world.trades) c.self.view_is, c.requires.room.trades)

pub returns-clause-ok : goal.returns-clause-ok
returns-clause-ok g c =
    let here : c.args._locate ≡ c.args.self.now.locate = c.requires.here in
    let i = c.self.inside in
    on_ok_weaker c.push.result (λ is. rw (here, ← c.self.view_is) (
    held_push i.locate i.book i.spent i.trades i.known c.args.trade _ is
    )) c.push.ensures.ok
