use Rattle.std.proofs.Common.{◌≡◌, ◌≤◌, length}
use Rattle.binaryfile.specs.Index.{offset, payloads_of}
use Rattle.binaryfile.proofs.scan.place_from.Given as goal

abbrev pub invariant-loop : goal.invariant-loop
invariant-loop l = (l.at ≡ offset (payloads_of l.bytes) l.counter) × (l.at ≤ length l.bytes)
