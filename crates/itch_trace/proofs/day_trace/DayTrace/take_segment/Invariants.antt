use Rattle.std.proofs.Common.{◌≡◌, ℕ, List, ◌++◌}
use Rattle.itch_readings.proofs.TakenAlong.{HasTakenAlong}
use Rattle.itch_trace.specs.Made.{HasTraced, MadeLines}
use Rattle.itch_trace.proofs.day_trace.DayTrace.take_segment.Given as goal

abbrev pub invariant-loop-payload : goal.invariant-loop-payload
invariant-loop-payload g l = record {
  along : (sent : MadeLines) (day : List (List ℕ)) → HasTraced sent day l.fn.self.machines l.fn.self.messages l.fn.self.made
      → HasTakenAlong (λ d. HasTraced sent d l.self.machines l.self.messages l.self.made) (day ++ l.segment.payloads) l.payload-iterator;
  begun : l.self.begun ≡ l.fn.self.begun;
}
