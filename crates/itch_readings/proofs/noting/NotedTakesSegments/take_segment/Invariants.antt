use Rattle.std.proofs.Common.{ℕ, List, ◌++◌}
use Rattle.itch_readings.specs.Noting.{HasTaken}
use Rattle.itch_readings.specs.declared.naming.StockName.{StockName}
use Rattle.itch_readings.proofs.TakenAlong.{HasTakenAlong}
use Rattle.itch_readings.proofs.noting.NotedTakesSegments.take_segment.Given as goal

abbrev pub invariant-loop-payload : goal.invariant-loop-payload
invariant-loop-payload g l =
    (first : g.row.N.Denot) (day : List (List ℕ)) (name : StockName)
    → HasTaken g.N.Notes.noted first day name l.fn.self.search l.fn.self.messages l.fn.self.stock l.fn.self.notes
    → HasTakenAlong (λ d. HasTaken g.N.Notes.noted first d name l.self.search l.self.messages l.self.stock l.self.notes)
    (day ++ l.segment.payloads) l.payload-iterator
