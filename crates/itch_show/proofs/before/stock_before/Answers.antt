use Rattle.std.proofs.Common.{subst}
use Rattle.itch_show.specs.Before.{HasTakenOwn}
use Rattle.itch_show.proofs.ReadingParts.{had_failed}
use Rattle.itch_show.proofs.OwnParts.{before, few_steps, fewer}
use Rattle.itch_show.proofs.before.stock_before.Goals as goal

pub returns-then-failed-clause-fault : goal.returns-then-failed-clause-fault
returns-then-failed-clause-fault g c = had_failed (g.R.Read.remaining c.args.feed.now.device) c.args.limits

pub returns-then-last-before-clause-stock : goal.returns-then-last-before-clause-stock
returns-then-last-before-clause-stock g c =
    fewer (g.N.Notes.noted) c.args.notes _ _ c.args.limits c.args.locate c.args.number _ _ _ ((c.in_ok-last.ensures {u = tt}).read) c.requires.some c.if-last-before.true

pub returns-clause-stock : goal.returns-clause-stock
returns-clause-stock g c =
    let read = (c.in_ok-last.ensures {u = tt}).read in
    let made = c.in_ok-noted.ensures {u = tt} in
    let first = c.in_ok-noted.noted in
    before g.N.Notes.noted c.args.notes _ _ c.args.limits c.args.locate c.args.number _ _ _ read c.requires.some c.if-last-before.false c.own_parts.result
    (subst (λ notes. HasTakenOwn g.N.Notes.noted notes read.day c.args.locate c.own_parts.result.0 c.own_parts.result.1) made.notes
    (c.own_parts.ensures first.notes read.day _ made.name read.holds))

pub returns-clause-machine : goal.returns-clause-machine
returns-clause-machine g c =
    let read = (c.in_ok-last.ensures {u = tt}).read in
    let made = c.in_ok-noted.ensures {u = tt} in
    let first = c.in_ok-noted.noted in
    let own = c.own_parts.ensures first.notes read.day _ made.name read.holds in (
      own.locate_is,
      few_steps g.N.Notes.noted first.notes _ _ c.args.limits c.args.locate c.args.number _ _ _ read c.requires.some c.ranges.number.fits c.own_parts.result own,
    )
