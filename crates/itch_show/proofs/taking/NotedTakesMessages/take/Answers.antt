use Rattle.itch_show.proofs.taking.NotedTakesMessages.take.Goals as goal

pub returns : goal.returns
returns g c = λ first day taken. c.in_ok-take.ensures {u = tt} first.notes day first.search.name taken
