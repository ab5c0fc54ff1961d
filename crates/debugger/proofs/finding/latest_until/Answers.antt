use Rattle.std.proofs.Common.{arith}
use Rattle.debugger.proofs.Neighbours.{latest_is, latest_none}
use Rattle.debugger.proofs.finding.latest_until.Goals as goal

pub returns-then-count-eq0 : goal.returns-then-count-eq0
returns-then-count-eq0 c = λ p last is le.
    let counted = c.count_until-count.ensures p last is le in
    latest_none p c.args.from (omega arith)

pub returns : goal.returns
returns c = λ p last is le.
    rw c.number_at.ensures (latest_is p c.args.from last c.count_until-count.result c.args.numbers.now is le (c.count_until-count.ensures p last is le) (omega arith))
