use Rattle.std.proofs.Common.{true, Ok, List, Option, ℕ}
use Rattle.binaryfile.specs.Entries.{Contents}
use Rattle.file_replay.specs.Files.{IsFurther, IsSoFar, ReadsOn}
use Rattle.file_replay.proofs.file_reader.FileReader.deal_next.Given as goal

abbrev pub invariant-loop-segment : goal.invariant-loop-segment
invariant-loop-segment g l = record {
  so_far : (start : Option (List ℕ)) (before : Contents) → IsSoFar start (g.R.Read.remaining l.fn.feed.device) before l.fn.self → IsFurther start (g.R.Read.remaining l.feed.device) before l.self l.dealt;
  reads : ReadsOn g.R.Read.remaining l.fn.feed l.feed l.fn.self l.self (Ok true);
}
