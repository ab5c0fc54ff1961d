use Rattle.std.proofs.Common.{arith}
use Rattle.std.proofs.lemmas.Result.{on_ok_weaker}
use Rattle.itch_trace.proofs.Traced.{other_traced, own_traced}
use Rattle.itch_trace.proofs.day_trace.DayTrace.take.Goals as goal

pub returns-in-Nowhere-clause-took : goal.returns-in-Nowhere-clause-took
returns-in-Nowhere-clause-took g c = on_ok_weaker c.note_other.result
    (λ noted sent day before.
    let self = c.args.self.now in
    other_traced sent day c.args.payload.now self.machines self.messages self.made c.note_other.new.self before c.stocks_are_independent.ensures.others _ (c.in-Nowhere.ensures {u = tt}) noted)
    c.note_other.ensures

pub returns-in-Locate-clause-took : goal.returns-in-Locate-clause-took
returns-in-Locate-clause-took g c = on_ok_weaker c.note_next.result
    (λ took sent day before.
    let self = c.args.self.now in
    own_traced sent day c.args.payload.now self.machines self.messages self.made _ before c.in-Locate.locate (omega arith)
    c.stocks_are_independent.ensures.own c.stocks_are_independent.ensures.others c.own_rows_suffice.ensures.order (c.in-Locate.ensures {u = tt}) _ took)
    c.note_next.ensures
