use Rattle.std.proofs.Common.{◌-◌, length, ap, ◌∙◌, arith}
use Rattle.itch_watch.proofs.SeenReadings.{last_at}
use Rattle.itch_watch.proofs.watching.last_seen.Goals as goal

pub returns-in-Some : goal.returns-in-Some
returns-in-Some c =
    let at = c.in-Some.ensures.item in
    ap (λ r. r.message) (at.3.1 c.in-Some.reading.now) ∙ last_at 0 (length c.args.readings.now - 1) c.args.readings.now c.in-Some.reading.now (omega (arith, at.3.0))
