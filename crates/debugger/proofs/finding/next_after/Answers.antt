use Rattle.debugger.proofs.Neighbours.{next_is}
use Rattle.debugger.proofs.finding.next_after.Goals as goal

pub returns : goal.returns
returns c = λ p last is le.
    rw c.number_at.ensures (next_is p c.args.from last c.count_until.result c.args.numbers.now is le (c.count_until.ensures p last is le))
