use Rattle.std.proofs.Common.{map}
use Rattle.day_core.proofs.DealtDay.{AreDealt}
use Rattle.day_core.proofs.dealing.deal.Given as goal

abbrev pub invariant-loop-before : goal.invariant-loop-before
invariant-loop-before g l = AreDealt l.day.payloads l.count l.before (map (λ own. own.items) l.own.items) l.fixed.items l.event
