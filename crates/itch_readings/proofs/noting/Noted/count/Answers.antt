use Rattle.itch_readings.proofs.TakenNext.{begun_stays}
use Rattle.itch_readings.proofs.noting.Noted.count.Goals as goal

pub returns-else-is_none : goal.returns-else-is_none
returns-else-is_none g c = λ first day name taken.
    begun_stays g.N.Notes.noted first day c.args.payload.now name _ _ _ c.args.self.now.stock (c.if-is_none.ensures {u = tt}) taken
