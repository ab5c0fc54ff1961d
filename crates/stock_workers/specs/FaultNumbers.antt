-- The fixed numbers of the faults of a run, and those of splitting a day among them. All is of this project.
use Rattle.std.specs.Prelude.{ℕ}
use Rattle.day_core.specs.declared.splitting.SplitFault.{SplitFault}
use Rattle.day_core.specs.declared.splitting.SplitFault.TheVariants as splitting
use Rattle.stock_workers.specs.declared.running.RunFault.{RunFault}
use Rattle.stock_workers.specs.declared.running.RunFault.TheVariants.{Memory, Workers}

abbrev pub number_of : RunFault → ℕ
number_of Memory = 1
number_of Workers = 2

abbrev pub of_split : SplitFault → RunFault
of_split splitting.Memory = Memory
of_split splitting.Workers = Workers
