use Rattle.std.proofs.Common.{ap, arith, length}
use Rattle.binaryfile.specs.Entries.{Contents}
use Rattle.binaryfile.proofs.day.Day.payloads.Goals as goal

pub returns-clause-few : goal.returns-clause-few
returns-clause-few g c = omega (arith, ap (λ (x : Contents). length x.payloads) c.self.view_is, c.self.invariant.count_is, c.self.invariant.few)
