use Rattle.std.proofs.Common.{◌≡◌, ◌+◌, length, take, ◌∙◌, arith, rules}
use Rattle.std.specs.Prelude.{None}
use Rattle.debugger.specs.Stops.{stops_at}
use Rattle.debugger.proofs.Nearest.{list_below, list_is, rearward_none, rearward_some, stops_more, test_of}
use Rattle.debugger.proofs.breakpoints.greatest_before.Goals as goal
use Rattle.debugger.proofs.breakpoints.greatest_before.Goals.{in-Some, in_default}

pub loop-list-preserved : goal.loop-list-preserved
loop-list-preserved g c =
    let day = c.args.day.now.payloads in
    let breaks = c.args.breaks.now in
    let i = c.loop-list.list-index in
    let below = list_below (λ v. v.items) breaks day c.args.stops.now c.requires.stops i c.loop-list-test.true in
    let list = c.deref.ensures.value ∙ list_is (λ v. v.items) breaks day c.args.stops.now c.requires.stops i c.list-item.result c.loop-list-test.true c.list-item.is in
    let p = test_of breaks day i in
    let q = stops_at (take i breaks) day in
    let r = stops_at (take (i + 1) breaks) day in
    let more = stops_more breaks day i below in
    let latest = c.latest_until.ensures p (length day) list (omega (arith, c.requires.within)) in
    elim c.match-latest_until.branch [
      | in-Some w ↦ rw w.greatest-is (rearward_some p q r more c.args.from c.loop-list.greatest w.in-Some.at c.loop-list.invariant (rw w.in-Some.is at latest) _ w.max-greatest.ensures)
      | in_default w ↦ rw w.greatest-is (rearward_none p q r more c.args.from c.loop-list.greatest c.loop-list.invariant (let none : c.latest_until.result ≡ None = search rules in rw none at latest))
    ]
