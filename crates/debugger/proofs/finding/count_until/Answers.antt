use Rattle.std.proofs.Common.{leb, rules}
use Rattle.std.proofs.lemmas.List.Sorted.{IsPartitionPoint-from_clause}
use Rattle.checkpoints.proofs.Splitting.{found, parted}
use Rattle.debugger.proofs.finding.count_until.Goals as goal

pub returns : goal.returns
returns c = λ p last is le.
    let parts = rw (← is) at (parted p c.args.n last le) in
    let point = IsPartitionPoint-from_clause (λ m. leb m c.args.n) _ _ c.partition_point.ensures.partitioned parts (λ a r q k. search rules) in
    found p c.args.n last le c.partition_point.result (rw is at c.partition_point.ensures.bound) (rw is at point)
