use Rattle.std.proofs.lemmas.Result.{on_ok_weaker}
use Rattle.itch_readings.proofs.TakenNext.{room_left}
use Rattle.itch_readings.proofs.noting.Noted.take.Goals as goal

pub note_own-requires : goal.note_own-requires
note_own-requires g c =
    let asked = c.requires in
    room_left g.N.Notes.noted asked.0 asked.1 c.args.payload.now asked.2 _ _ _ _ (c.count.ensures asked.0 asked.1 asked.2 asked.3) asked.4

pub returns : goal.returns
returns g c = on_ok_weaker c.note_own.result (λ taken first day name before. taken first day name (c.count.ensures first day name before)) c.note_own.ensures
