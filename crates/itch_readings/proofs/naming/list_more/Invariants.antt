use Rattle.std.proofs.Common.{ℕ, List, ◌++◌, length}
use Rattle.itch_readings.specs.Naming.{AreListed}
use Rattle.itch_readings.proofs.Listing.{IsListing}
use Rattle.itch_readings.proofs.naming.list_more.Given as goal

abbrev pub invariant-loop-payload : goal.invariant-loop-payload
invariant-loop-payload g l =
    (before : List (List ℕ)) → AreListed before (length before) l.fn.listed.items
    → IsListing (before ++ l.segment.payloads) l.payload-iterator l.listed.items
