use Rattle.std.proofs.Common.{◌∙◌, ◌++◌, refl, arith}
use Rattle.std.proofs.lemmas.List.{length-append}
use Rattle.itch_readings.proofs.TakenAlong.{along_all, along_first, along_fits, along_next}
use Rattle.itch_trace.specs.Made.{HasTraced}
use Rattle.itch_trace.proofs.day_trace.DayTrace.take_segment.Goals as goal

pub loop-payload-init : goal.loop-payload-init
loop-payload-init g c =
    let self = c.args.self.now in
    record {
      along = λ sent day taken. along_first (λ d. HasTraced sent d self.machines self.messages self.made) day c.args.segment.now.payloads _
          (c.into_iter-payload-iterator.ensures.into_iter_gives ∙ c.payloads-payload-items.ensures.payloads) taken;
      begun = refl;
    }

pub take-requires : goal.take-requires
take-requires g c =
    let asked = c.requires in
    let along = c.loop-payload.invariant.along asked.0 asked.1 asked.2 in
    let fits = along_fits _ (asked.1 ++ c.args.segment.now.payloads) c.loop-payload.payload-iterator along c.in-Some.payload.now _ ((c.in-Some.ensures {u = tt}).steps) in
    (asked.0, along.so_far, along.taken, omega (arith, fits, asked.3, length-append asked.1 c.args.segment.now.payloads))

pub loop-payload-preserved : goal.loop-payload-preserved
loop-payload-preserved g c =
    let self = c.take.new.self in
    record {
      along = λ sent day taken.
          let along = c.loop-payload.invariant.along sent day taken in
          along_next _ (day ++ c.args.segment.now.payloads) c.loop-payload.payload-iterator along c.in-Some.payload.now _ ((c.in-Some.ensures {u = tt}).steps)
          (λ d. HasTraced sent d self.machines self.messages self.made)
          ((c.in_ok-take.ensures {u = tt}).took sent along.so_far along.taken);
      begun = c.take.ensures.begun ∙ c.loop-payload.invariant.begun;
    }

pub returns-clause-took : goal.returns-clause-took
returns-clause-took g c = λ sent day taken.
    let self = c.loop-payload.self in
    along_all (λ d. HasTraced sent d self.machines self.messages self.made)
    (day ++ c.args.segment.now.payloads) c.loop-payload.payload-iterator (c.loop-payload.invariant.along sent day taken) ((c.in-None.ensures {u = tt}).steps.0)
