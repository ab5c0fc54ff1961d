use Rattle.std.proofs.Common.{◌≡◌, ◌++◌, ℕ, List, Option, take}
use Rattle.binaryfile.specs.Devices.{HasFailed}
use Rattle.itch_debug.specs.Going.{session_of}
use Rattle.itch_debug.specs.Runs.{Stands}
use Rattle.itch_debug.proofs.console.Console.take_piece.Given as goal

abbrev pub invariant-loop-byte : goal.invariant-loop-byte
invariant-loop-byte g l = record {
  stands : (day : List (List ℕ)) (before : Option (List ℕ)) (commands : List ℕ)
      → Stands day before (g.W.Write.contents l.fn.sink.device) commands (session_of l.fn.self.next l.fn.self.debugger) l.fn.self.begun.items
      → Stands day before (g.W.Write.contents l.sink.device) (commands ++ take l.byte-index l.piece) (session_of l.self.next l.self.debugger) l.self.begun.items;
  for_good : HasFailed l.fn.sink → l.sink ≡ l.fn.sink;
}
