use Rattle.itch_readings.proofs.MarkedTrades.{one_break_more}
use Rattle.itch_readings.proofs.broken_trades.FirstBreaks.put.Goals as goal

pub returns : goal.returns
returns g c = λ later before.
    one_break_more later c.args.by c.args.self.now.numbers c.insert.new.self before (λ key. (c.in_ok-insert.ensures {u = tt}).updates.0 key)
