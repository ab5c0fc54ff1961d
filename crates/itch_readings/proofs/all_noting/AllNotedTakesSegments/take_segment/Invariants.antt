use Rattle.std.proofs.Common.{ℕ, List, ◌++◌}
use Rattle.itch_readings.specs.AllStocks.{HasNotedAll}
use Rattle.itch_readings.proofs.TakenAlong.{HasTakenAlong}
use Rattle.itch_readings.proofs.all_noting.AllNotedTakesSegments.take_segment.Given as goal

abbrev pub invariant-loop-payload : goal.invariant-loop-payload
invariant-loop-payload g l =
    (first : g.row.N.Denot) (day : List (List ℕ))
    → HasNotedAll g.N.Notes.noted first day l.fn.self.machines l.fn.self.messages l.fn.self.notes
    → HasTakenAlong (λ d. HasNotedAll g.N.Notes.noted first d l.self.machines l.self.messages l.self.notes)
    (day ++ l.segment.payloads) l.payload-iterator
