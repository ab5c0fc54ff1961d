use Rattle.std.proofs.Common.{◌≡◌, ◌++◌, List, take}
use Rattle.std.specs.List.{flat_map}
use Rattle.day_replay.specs.declared.refusals.RefusedMessage.{RefusedMessage}
use Rattle.itch_summary.specs.RefusedCounts.{AreCounts}
use Rattle.itch_summary.specs.Summaries.{machine_line}
use Rattle.itch_summary.proofs.summary.put_lines.Given as goal

abbrev pub invariant-loop-stock : goal.invariant-loop-stock
invariant-loop-stock g l =
    (refused : List RefusedMessage) → AreCounts refused l.counts
    → l.text.items ≡ l.fn.text.items ++ flat_map (machine_line refused) (take l.stock-index l.stocks)
