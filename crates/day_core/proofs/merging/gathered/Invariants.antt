use Rattle.std.proofs.Common.{Option, Some, ◌≡◌, ℕ, ◌<◌, ◌≤◌, length}
use Rattle.std.specs.Vec.{vec_capacity}
use Rattle.std.specs.Prelude.{slice_index_or}
use Rattle.itch_table.specs.declared.outcome.Outcome.{Outcome}
use Rattle.day_core.proofs.merging.gathered.Given as goal

abbrev pub invariant-loop-before : goal.invariant-loop-before
invariant-loop-before g l = record {
  long : length l.outcomes.items ≡ l.before;
  room : length l.slots ≤ vec_capacity l.outcomes;
  each : (k : ℕ) (one : Outcome) (none : Option Outcome) → k < l.before → slice_index_or l.slots k none ≡ Some (slice_index_or l.outcomes.items k one);
}
