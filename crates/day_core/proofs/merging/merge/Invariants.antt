use Rattle.std.proofs.Common.{◌≡◌, length}
use Rattle.day_core.specs.Merging.{Holds}
use Rattle.day_core.proofs.merging.merge.Given as goal

abbrev pub invariant-loop-piece : goal.invariant-loop-piece
invariant-loop-piece g l = record {
  long : length l.slots.items ≡ l.messages;
  placed : Holds l.yielded l.slots.items;
}
