use Rattle.std.proofs.Common.{◌≡◌, ◌<◌, ℕ, false}
use Rattle.debugger.proofs.Nearest.{test_of}
use Rattle.debugger.proofs.breakpoints.first_hit.Given as goal

abbrev pub invariant-loop-index : goal.invariant-loop-index
invariant-loop-index g l = (k : ℕ) → k < l.index → test_of l.breaks l.day.payloads k l.at ≡ false
