use Rattle.stock_machine.proofs.SpentLists.{taken_out}
use Rattle.stock_machine.proofs.spent.SpentReferences.remove.Goals as goal

pub returns : goal.returns
returns g c =
    let i = c.self.inside in
    rw (← c.self.view_is) (
    taken_out c.args.reference i.first i.distances.items i.others.keys c.take_out.new.distances.items c.remove.new.self.keys c.take_out.ensures.gone c.remove.ensures.updates.0
    )
