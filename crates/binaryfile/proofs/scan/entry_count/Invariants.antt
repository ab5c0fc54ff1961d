use Rattle.std.proofs.Common.{◌≡◌, ◌-◌, ◌≤◌, length}
use Rattle.binaryfile.specs.Index.{offset, payloads_of}
use Rattle.binaryfile.proofs.scan.entry_count.Given as goal

abbrev pub invariant-loop-payload : goal.invariant-loop-payload
invariant-loop-payload l = record {
  place : l.end ≡ offset (payloads_of l.bytes) l.count;
  counted : l.count ≤ length (payloads_of l.bytes);
  within : l.end ≤ length l.bytes;
  fewer : l.count ≤ l.end;
}

abbrev pub decreases-loop-payload : goal.decreases-loop-payload
decreases-loop-payload l = length l.bytes - l.end
