use Rattle.debugger.proofs.Stopping.{IsPricing}
use Rattle.debugger.proofs.scanning.price_stops_by.Given as goal

abbrev pub invariant-loop-payload : goal.invariant-loop-payload
invariant-loop-payload g l =
    IsPricing l.day.payloads l.payload-iterator l.locate l.side l.price l.number l.stock l.stops.items
