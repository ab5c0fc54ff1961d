use Rattle.std.proofs.Common.{◌≢◌, sym, arith}
use Rattle.std.proofs.lemmas.Slice.Eq.{bytes_eq-Decides}
use Rattle.itch_readings.proofs.Searched.{first_of_symbol, gives_none, listed_already, of_another_symbol}
use Rattle.itch_readings.proofs.search.begun_with.Goals as goal

pub returns-in_default : goal.returns-in_default
returns-in_default c = λ day none knows.
    gives_none day c.args.payload.now c.args.symbol.now c.args.listed.now none knows (sym (c.in_default.ensures {u = tt}))

pub returns-then-listed-locate : goal.returns-then-listed-locate
returns-then-listed-locate c = λ day none knows.
    listed_already day c.args.payload.now c.args.symbol.now c.args.listed.now none knows c.in-Some.own (sym (c.in-Some.ensures {u = tt})) c.in-Locate.locate (sym (c.in-Locate.ensures {u = tt})) (omega arith)
    c.if-listed-locate.true

pub returns-then-eq : goal.returns-then-eq
returns-then-eq c = λ day none knows.
    first_of_symbol day c.args.payload.now c.args.symbol.now c.args.listed.now none knows c.in-Some.own (sym (c.in-Some.ensures {u = tt})) c.in-Locate.locate (sym (c.in-Locate.ensures {u = tt})) (omega arith)
    c.if-listed-locate.false c.requires c.args.listed.now ((bytes_eq-Decides c.in-Some.own c.args.symbol.now).0 (sym (c.if-eq.ensures {u = tt})))

pub returns-else-eq : goal.returns-else-eq
returns-else-eq c = λ day none knows.
    let differ : c.in-Some.own ≢ c.args.symbol.now =
    λ same. let on = (bytes_eq-Decides c.in-Some.own c.args.symbol.now).1 same in let off = c.if-eq.ensures {u = tt} in let never : ⊥ = cc in never in
    of_another_symbol day c.args.payload.now c.args.symbol.now c.args.listed.now none knows c.in-Some.own (sym (c.in-Some.ensures {u = tt})) c.in-Locate.locate (sym (c.in-Locate.ensures {u = tt})) (omega arith)
    c.if-listed-locate.false c.requires differ
