use Rattle.std.proofs.Common.{take}
use Rattle.debugger.specs.Finding.{IsRearward}
use Rattle.debugger.specs.Stops.{stops_at}
use Rattle.debugger.proofs.breakpoints.greatest_before.Given as goal

abbrev pub invariant-loop-list : goal.invariant-loop-list
invariant-loop-list g l =
    IsRearward (stops_at (take l.list-index l.breaks) l.day.payloads) l.from l.greatest
