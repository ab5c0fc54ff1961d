-- The fixed numbers of the faults of splitting a day and of merging pieces. They are of this project.
use Rattle.std.specs.Prelude.{ℕ}
use Rattle.day_core.specs.declared.splitting.SplitFault.{SplitFault}
use Rattle.day_core.specs.declared.splitting.SplitFault.TheVariants as splitting
use Rattle.day_core.specs.declared.merging.MergeFault.{MergeFault}
use Rattle.day_core.specs.declared.merging.MergeFault.TheVariants as merging

abbrev pub split_number : SplitFault → ℕ
split_number splitting.Memory = 1
split_number splitting.Workers = 2

abbrev pub merge_number : MergeFault → ℕ
merge_number merging.Memory = 1
merge_number (merging.Double message) = 2
merge_number (merging.Stranger message) = 3
merge_number (merging.Missing message) = 4
