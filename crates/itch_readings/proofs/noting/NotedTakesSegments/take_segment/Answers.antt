use Rattle.std.proofs.Common.{◌∙◌, ◌++◌, arith}
use Rattle.std.proofs.lemmas.List.{length-append}
use Rattle.itch_readings.specs.Noting.{HasTaken}
use Rattle.itch_readings.proofs.TakenAlong.{along_all, along_first, along_fits, along_next}
use Rattle.itch_readings.proofs.noting.NotedTakesSegments.take_segment.Goals as goal

pub loop-payload-init : goal.loop-payload-init
loop-payload-init g c = λ first day name taken.
    let self = c.args.self.now in
    along_first (λ d. HasTaken g.N.Notes.noted first d name self.search self.messages self.stock self.notes) day c.args.segment.now.payloads _
    (c.into_iter-payload-iterator.ensures.into_iter_gives ∙ c.payloads-payload-items.ensures.payloads) taken

pub take-requires : goal.take-requires
take-requires g c =
    let asked = c.requires in
    let first = asked.0.notes in
    let name = asked.0.search.name in
    let along = c.loop-payload.invariant first asked.1 name asked.2 in
    let fits = along_fits _ (asked.1 ++ c.args.segment.now.payloads) c.loop-payload.payload-iterator along c.in-Some.payload.now _ ((c.in-Some.ensures {u = tt}).steps) in
    (first, along.so_far, name, along.taken, omega (arith, fits, asked.3, length-append asked.1 c.args.segment.now.payloads))

pub loop-payload-preserved : goal.loop-payload-preserved
loop-payload-preserved g c = λ first day name taken.
    let self = c.take.new.self in
    let along = c.loop-payload.invariant first day name taken in
    along_next _ (day ++ c.args.segment.now.payloads) c.loop-payload.payload-iterator along c.in-Some.payload.now _ ((c.in-Some.ensures {u = tt}).steps)
    (λ d. HasTaken g.N.Notes.noted first d name self.search self.messages self.stock self.notes)
    (c.in_ok-take.ensures {u = tt} first along.so_far name along.taken)

pub returns : goal.returns
returns g c = λ first day taken.
    let self = c.loop-payload.self in
    along_all (λ d. HasTaken g.N.Notes.noted first.notes d first.search.name self.search self.messages self.stock self.notes)
    (day ++ c.args.segment.now.payloads) c.loop-payload.payload-iterator (c.loop-payload.invariant first.notes day first.search.name taken) ((c.in-None.ensures {u = tt}).steps.0)
