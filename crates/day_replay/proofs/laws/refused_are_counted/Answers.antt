use Rattle.day_replay.proofs.RefusedByStock.{refused_are_counted}
use Rattle.day_replay.proofs.laws.refused_are_counted.Goals as goal

pub returns : goal.returns
returns c = refused_are_counted
