use Rattle.std.proofs.Common.{ap, length, arith}
use Rattle.itch_table.specs.World.{orders_of}
use Rattle.itch_table.specs.Machine.{Machine}
use Rattle.itch_table.proofs.Counts.{length-orders_of}
use Rattle.itch_table.proofs.plain.Plain.orders.Goals as goal

pub returns-clause-few : goal.returns-clause-few
returns-clause-few g c =
    let is = ap (λ (m : Machine). length (orders_of m.world c.args.locate)) c.self.view_is in
    omega (arith, is, length-orders_of c.self.inside.rows c.args.locate)
