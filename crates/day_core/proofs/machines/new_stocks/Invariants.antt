use Rattle.std.proofs.Common.{◌≡◌, map, take}
use Rattle.day_core.specs.Owners.{new_machine}
use Rattle.day_core.proofs.machines.new_stocks.Given as goal

abbrev pub invariant-loop-locate : goal.invariant-loop-locate
invariant-loop-locate g l = l.stocks.items ≡ map new_machine (take l.locate-index l.locates)
