use Rattle.std.proofs.Common.{◌≡◌, ℕ, List, length}
use Rattle.day_replay.specs.Replays.{AreAfter, Hold}
use Rattle.day_replay.proofs.LastMachines.{found_in, machines_below}
use Rattle.day_replay.proofs.ending.all_stocks.Given as goal

abbrev pub invariant-loop-locate : goal.invariant-loop-locate
invariant-loop-locate g l =
    (length l.batches.items ≡ 128)
    × ((day : List (List ℕ)) → AreAfter day l.fn.batches.items
    → Hold (found_in day) l.locate l.batches.items × (l.stocks.items ≡ machines_below day l.locate))
