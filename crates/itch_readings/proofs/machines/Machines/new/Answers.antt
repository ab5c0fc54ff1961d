use Rattle.itch_readings.proofs.MachineSlots.{none_seen}
use Rattle.itch_readings.proofs.machines.Machines.new.Goals as goal

pub returns-clause-none : goal.returns-clause-none
returns-clause-none g c = none_seen (λ stock. stock.value) c.loop-slot.slots.items c.loop-slot.invariant.1
