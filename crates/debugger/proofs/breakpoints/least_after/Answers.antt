use Rattle.std.proofs.Common.{◌≡◌, ◌+◌, length, take, ◌∙◌, arith, rules}
use Rattle.std.specs.Prelude.{None}
use Rattle.debugger.specs.Stops.{stops_at}
use Rattle.debugger.proofs.Nearest.{list_below, list_is, onward_none, onward_some, stops_more, test_of}
use Rattle.debugger.proofs.breakpoints.least_after.Goals as goal
use Rattle.debugger.proofs.breakpoints.least_after.Goals.{in-Some, in_default}

pub loop-list-preserved : goal.loop-list-preserved
loop-list-preserved g c =
    let day = c.args.day.now.payloads in
    let breaks = c.args.breaks.now in
    let i = c.loop-list.list-index in
    let below = list_below (λ v. v.items) breaks day c.args.stops.now c.requires.stops i c.loop-list-test.true in
    let list = c.deref.ensures.value ∙ list_is (λ v. v.items) breaks day c.args.stops.now c.requires.stops i c.list-item.result c.loop-list-test.true c.list-item.is in
    let p = test_of breaks day i in
    let q = stops_at (take i breaks) day in
    let r = stops_at (take (i + 1) breaks) day in
    let more = stops_more breaks day i below in
    let next = c.next_after.ensures p (length day) list (omega arith) in
    elim c.match-next_after.branch [
      | in-Some w ↦ rw w.least-is (onward_some p q r more c.args.from (length day) c.loop-list.least w.in-Some.at c.loop-list.invariant (rw w.in-Some.is at next) _ w.min-least.ensures)
      | in_default w ↦ rw w.least-is (onward_none p q r more c.args.from (length day) c.loop-list.least c.loop-list.invariant (let none : c.next_after.result ≡ None = search rules in rw none at next))
    ]
