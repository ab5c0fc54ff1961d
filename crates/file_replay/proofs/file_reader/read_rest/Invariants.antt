use Rattle.std.proofs.Common.{◌≡◌, ◌-◌, ◌≤◌, List, Option, ℕ, length}
use Rattle.binaryfile.specs.Devices.{HasFailed}
use Rattle.binaryfile.specs.Entries.{Contents}
use Rattle.day_segments.specs.Reading.{HasRead}
use Rattle.file_replay.proofs.file_reader.read_rest.Given as goal

abbrev pub invariant-loop-segment : goal.invariant-loop-segment
invariant-loop-segment g l = record {
  so_far : (start : Option (List ℕ)) (before : Contents) → HasRead start (g.R.Read.remaining l.fn.feed.device) before l.fn.reader
      → (contents : Contents) × HasRead start (g.R.Read.remaining l.feed.device) contents l.reader × (length before.payloads ≤ length contents.payloads);
  most : l.reader.most ≡ l.fn.reader.most;
  working : HasFailed l.fn.feed → l.feed ≡ l.fn.feed;
}

abbrev pub decreases-loop-segment : goal.decreases-loop-segment
decreases-loop-segment g l = l.reader.most - l.reader.given
