use Rattle.std.proofs.Common.{◌≡◌, All, None, length}
use Rattle.itch_readings.proofs.machines.Machines.new.Given as goal

abbrev pub invariant-loop-slot : goal.invariant-loop-slot
invariant-loop-slot g l = (length l.slots.items ≡ l._slot) × All (λ s. s ≡ None) l.slots.items
