use Rattle.checkpoints.proofs.Along.{copies_first}
use Rattle.checkpoints.proofs.track.copies_of.Goals as goal

pub add_copies-requires-clause-new : goal.add_copies-requires-clause-new
add_copies-requires-clause-new g c =
    let new = c.new-stock.ensures in
    copies_first c.args.day.now.payloads c.args.locate c.args.every c.new-stock.result new.locate new.world new.steps
