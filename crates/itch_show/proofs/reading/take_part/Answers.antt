use Rattle.std.proofs.Common.{◌++◌, ◌∙◌, sym}
use Rattle.itch_show.proofs.PartsTaken.{along_next, stopped}
use Rattle.itch_show.proofs.reading.take_part.Goals as goal

pub returns-then-is_before : goal.returns-then-is_before
returns-then-is_before g c = λ first day taken before up.
    let along = c.loop-payload.invariant first day taken before up in
    stopped c.args.place.now (g.T.TakesMessages.has_taken first c.loop-payload.taker) day c.args.segment.now.payloads c.loop-payload.payload-iterator
    c.loop-payload.messages c.args.before along before c.in-Some.payload.now _ ((c.in-Some.ensures {u = tt}).steps)
    (sym c.is_before.ensures ∙ c.if-is_before.true)

pub loop-payload-preserved : goal.loop-payload-preserved
loop-payload-preserved g c = λ first day taken before up.
    let along = c.loop-payload.invariant first day taken before up in
    along_next c.args.place.now (g.T.TakesMessages.has_taken first c.loop-payload.taker) day c.args.segment.now.payloads c.loop-payload.payload-iterator
    c.loop-payload.messages c.args.before along before c.in-Some.payload.now _ ((c.in-Some.ensures {u = tt}).steps)
    (g.T.TakesMessages.has_taken first c.take.new.self)
    (sym c.is_before.ensures ∙ c.if-is_before.false)
    (c.in_ok-take.ensures {u = tt} first (day ++ along.so_far) along.taken)
