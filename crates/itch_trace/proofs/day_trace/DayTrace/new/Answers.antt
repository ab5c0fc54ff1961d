use Rattle.itch_readings.proofs.AllTaken.{none_noted}
use Rattle.itch_trace.specs.Made.{Anything}
use Rattle.itch_trace.proofs.day_trace.DayTrace.new.Goals as goal

pub returns-clause-took : goal.returns-clause-took
returns-clause-took g c =
    let made = c.in_ok-machines.ensures {u = tt} in
    none_noted Anything tt c.in_ok-machines.machines made.long made.none tt
