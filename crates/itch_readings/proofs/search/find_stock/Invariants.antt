use Rattle.itch_readings.proofs.Found.{IsSearching}
use Rattle.itch_readings.proofs.search.find_stock.Given as goal

abbrev pub invariant-loop-payload : goal.invariant-loop-payload
invariant-loop-payload g l = IsSearching l.day.payloads l.payload-iterator l.fn.name l.search
