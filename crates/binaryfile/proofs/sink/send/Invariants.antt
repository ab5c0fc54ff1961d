use Rattle.std.proofs.Common.{◌≡◌, ◌-◌, ◌≤◌, length, take}
use Rattle.std.specs.Io.KnownBytes.{Appends}
use Rattle.binaryfile.specs.Devices.{HasFailed}
use Rattle.binaryfile.proofs.sink.send.Given as goal

abbrev pub invariant-loop-written : goal.invariant-loop-written
invariant-loop-written g l = record {
  sent : Appends (g.W.Write.contents l.initial.sink.device) (g.W.Write.contents l.sink.device) (take l.written l.bytes);
  within : l.written ≤ length l.bytes;
  kept : l.sink.failed ≡ l.initial.sink.failed;
  nothing : HasFailed l.initial.sink → l.written ≡ 0;
  for_good : HasFailed l.initial.sink → l.sink ≡ l.initial.sink;
}

abbrev pub decreases-loop-written : goal.decreases-loop-written
decreases-loop-written g l = length l.bytes - l.written
