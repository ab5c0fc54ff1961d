use Rattle.std.proofs.Common.{take, length}
use Rattle.debugger.specs.Finding.{IsOnward}
use Rattle.debugger.specs.Stops.{stops_at}
use Rattle.debugger.proofs.breakpoints.least_after.Given as goal

abbrev pub invariant-loop-list : goal.invariant-loop-list
invariant-loop-list g l =
    IsOnward (stops_at (take l.list-index l.breaks) l.day.payloads) l.from (length l.day.payloads) l.least
