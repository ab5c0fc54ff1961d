use Rattle.debugger.proofs.Stopping.{IsWaiting}
use Rattle.debugger.proofs.scanning.time_stops.Given as goal

abbrev pub invariant-loop-payload : goal.invariant-loop-payload
invariant-loop-payload g l = IsWaiting l.day.payloads l.payload-iterator l.time l.number l.stops.items
