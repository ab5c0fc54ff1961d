use Rattle.std.proofs.Common.{rules}
use Rattle.itch_table.specs.Projection.{is_of_stock}
use Rattle.checkpoints.specs.Copies.{numbers_of}
use Rattle.checkpoints.proofs.own.numbers_of.Goals as goal

pub returns : goal.returns
unfolding numbers_of
returns g c = c.numbers_where.ensures (is_of_stock c.args.locate) (λ payload found says. search rules)
