use Rattle.itch_readings.proofs.AllTaken.{none_noted}
use Rattle.itch_readings.proofs.all_noting.AllNoted.new.Goals as goal

pub returns-clause-none : goal.returns-clause-none
returns-clause-none g c =
    let made = c.in_ok-machines.ensures {u = tt} in
    none_noted g.N.Notes.noted c.args.notes c.in_ok-machines.machines made.long made.none c.requires
