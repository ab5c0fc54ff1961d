use Rattle.std.proofs.Common.{◌≡◌, ◌-◌, ◌*◌, ◌≤◌, length}
use Rattle.binaryfile.specs.Index.{offset, payloads_of}
use Rattle.binaryfile.proofs.Offsets.{Indexed}
use Rattle.binaryfile.proofs.scan.index_entries.Given as goal

abbrev pub invariant-loop-payload : goal.invariant-loop-payload
invariant-loop-payload g l = record {
  place : l.end ≡ offset (payloads_of l.bytes) l.count;
  counted : l.count ≤ length (payloads_of l.bytes);
  within : l.end ≤ length l.bytes;
  fewer : 2 * l.count ≤ l.end;
  indexed : Indexed l.bytes l.starts.items l.count;
}

abbrev pub decreases-loop-payload : goal.decreases-loop-payload
decreases-loop-payload g l = length l.bytes - l.end
