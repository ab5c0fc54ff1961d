use Rattle.std.proofs.Common.{ℕ, List, subst}
use Rattle.binaryfile.specs.Devices.{Sends}
use Rattle.binaryfile.proofs.day.Day.write_to.Goals as goal

pub returns-clause-sent : goal.returns-clause-sent
returns-clause-sent g c =
    subst (λ (x : List ℕ). Sends (g.W.Write.contents c.args.sink.now.device) (g.W.Write.contents c.send.new.sink.device) x c.send.result) c.bytes.ensures.bytes c.send.ensures.sent
