use Rattle.std.proofs.Common.{arith}
use Rattle.std.proofs.lemmas.Result.{on_ok_weaker}
use Rattle.itch_readings.proofs.AllTaken.{all_own, all_pass}
use Rattle.itch_readings.proofs.all_noting.AllNoted.take.Goals as goal

pub returns-in_default : goal.returns-in_default
returns-in_default g c = λ first day before.
    let self = c.args.self.now in
    all_pass g.N.Notes.noted first day c.args.payload.now self.machines self.messages self.notes before c.stocks_are_independent.ensures.others _ (c.in_default.ensures {u = tt})

pub returns : goal.returns
returns g c = on_ok_weaker c.note_next.result
    (λ took first day before.
    let self = c.args.self.now in
    all_own g.N.Notes.noted first day c.args.payload.now self.machines self.messages self.notes before c.in-Locate.locate (omega arith)
    c.stocks_are_independent.ensures.own c.stocks_are_independent.ensures.others c.own_rows_suffice.ensures.order (c.in-Locate.ensures {u = tt}) _ _ took)
    c.note_next.ensures
