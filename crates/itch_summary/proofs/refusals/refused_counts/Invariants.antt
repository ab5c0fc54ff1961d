use Rattle.std.proofs.Common.{take}
use Rattle.itch_summary.specs.RefusedCounts.{AreCounts}
use Rattle.itch_summary.proofs.refusals.refused_counts.Given as goal

abbrev pub invariant-loop-message : goal.invariant-loop-message
invariant-loop-message g l = AreCounts (take l.message-index l.refused) l.counts.items
