use Rattle.std.proofs.Common.{◌≡◌, ◌+◌}
use Rattle.checkpoints.specs.Copies.{machine_after_own}
use Rattle.checkpoints.proofs.own.advance.Given as goal

abbrev pub invariant-loop-number : goal.invariant-loop-number
invariant-loop-number g l =
    l.stock ≡ machine_after_own l.day.payloads l.fn.stock.locate (l.from + l.number-index)
