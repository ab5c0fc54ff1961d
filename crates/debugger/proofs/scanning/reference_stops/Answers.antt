use Rattle.std.proofs.Common.{rules}
use Rattle.itch_layouts.specs.Shapes.{shape_of}
use Rattle.debugger.specs.Stops.{names, stops_of}
use Rattle.debugger.proofs.scanning.reference_stops.Goals as goal

pub returns : goal.returns
unfolding stops_of
returns g c =
    c.numbers_where.ensures (λ payload. names c.args.locate c.args.reference (shape_of payload)) (λ payload found says. search rules)
