use Rattle.std.proofs.Common.{rules}
use Rattle.itch_layouts.specs.Shapes.{shape_of}
use Rattle.debugger.specs.Sessions.{is_system, systems_of}
use Rattle.debugger.proofs.events.systems_of.Goals as goal

pub returns : goal.returns
unfolding systems_of
returns g c = c.numbers_where.ensures (λ payload. is_system (shape_of payload)) (λ payload found says. search rules)
