use Rattle.std.proofs.Common.{◌≡◌, ◌+◌, ◌*◌, map}
use Rattle.std.specs.List.{range_with_len}
use Rattle.checkpoints.specs.Copies.{machine_after_own}
use Rattle.checkpoints.proofs.track.add_copies.Given as goal

abbrev pub invariant-loop-last : goal.invariant-loop-last
invariant-loop-last g l = record {
  kept : l.copies.items ≡ map (λ k. machine_after_own l.day.payloads l.locate (k * l.every)) (range_with_len 0 (l.last + 1));
  stands : l.stock ≡ machine_after_own l.day.payloads l.locate (l.last * l.every);
}
