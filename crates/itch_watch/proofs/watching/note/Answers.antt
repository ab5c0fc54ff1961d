use Rattle.std.proofs.Common.{◌≡◌, ◌<◌, ap, subst, sym, ◌∙◌, arith}
use Rattle.day_core.specs.Owners.{last_or}
use Rattle.itch_watch.specs.Watching.{AreSeen, numbers}
use Rattle.itch_watch.proofs.SeenReadings.{last_is, seen_more}
use Rattle.itch_watch.proofs.watching.note.Goals as goal

pub returns-in_ok-push-clause-seen : goal.returns-in_ok-push-clause-seen
returns-in_ok-push-clause-seen g c = λ day locate seen reading.
    let old = c.args.readings.now.items in
    let read : c.deref.result.now ≡ old = c.deref.ensures.value in
    let later : last_or 0 (numbers old) < c.args.reading.message = omega (arith, ap (λ rs. last_or 0 (numbers rs)) read, c.last_seen.ensures, c.if-reading-last_seen.true) in
    subst (AreSeen day locate) (sym c.in_ok-push.ensures.items) (seen_more day locate old c.args.reading seen reading later)

pub returns-in_ok-push-clause-noted : goal.returns-in_ok-push-clause-noted
returns-in_ok-push-clause-noted g c = λ le.
    ap (λ rs. last_or 0 (numbers rs)) c.in_ok-push.ensures.items ∙ last_is c.args.readings.now.items c.args.reading
