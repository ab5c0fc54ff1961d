use Rattle.std.proofs.Common.{◌≡◌, ◌<◌, ℕ, List, Option, false, length}
use Rattle.binaryfile.specs.Devices.{HasFailed}
use Rattle.itch_debug.specs.Going.{session_of}
use Rattle.itch_debug.specs.Runs.{Serves, most_command_bytes}
use Rattle.itch_debug.proofs.run.serve.Given as goal

abbrev pub invariant-pieces : goal.invariant-pieces
invariant-pieces g l = record {
  serves : (day : List (List ℕ)) (unread before : Option (List ℕ))
      → Serves day unread (g.R.Read.remaining l.fn.feed.device) before (g.W.Write.contents l.fn.sink.device) (session_of l.fn.console.next l.fn.console.debugger) l.fn.console.begun.items most_command_bytes
      → Serves day unread (g.R.Read.remaining l.feed.device) before (g.W.Write.contents l.sink.device) (session_of l.console.next l.console.debugger) l.console.begun.items l.left;
  room : 0 < length l.room;
  working : l.feed.failed ≡ false;
  for_good : HasFailed l.fn.sink → l.sink ≡ l.fn.sink;
}

abbrev pub decreases-pieces : goal.decreases-pieces
decreases-pieces g l = l.left
