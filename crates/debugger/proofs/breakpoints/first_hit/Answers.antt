use Rattle.std.proofs.Common.{◌≡◌, length, sym, ◌∙◌, arith, false, below_more}
use Rattle.debugger.proofs.Nearest.{hit_here, hit_none, hit_other, hit_some, list_below, list_count, list_is, test_of}
use Rattle.debugger.proofs.breakpoints.first_hit.Goals as goal

pub returns-then-eq : goal.returns-then-eq
returns-then-eq g c =
    let day = c.args.day.now.payloads in
    let breaks = c.args.breaks.now in
    let i = c.loop-index.index in
    let below = list_below (λ v. v.items) breaks day c.args.stops.now c.requires.stops i c.loop-index-test.true in
    let list = c.deref.ensures.value ∙ list_is (λ v. v.items) breaks day c.args.stops.now c.requires.stops i c.index-stops-index.result c.loop-index-test.true c.index-stops-index.is in
    let latest = c.latest_until.ensures (test_of breaks day i) (length day) list c.requires.within in
    hit_some breaks day c.args.at i below c.loop-index.invariant (hit_here _ c.args.at c.latest_until.result (sym (c.if-eq.ensures {u = tt})) latest)

pub loop-index-preserved : goal.loop-index-preserved
loop-index-preserved g c =
    let day = c.args.day.now.payloads in
    let breaks = c.args.breaks.now in
    let i = c.loop-index.index in
    let list = c.deref.ensures.value ∙ list_is (λ v. v.items) breaks day c.args.stops.now c.requires.stops i c.index-stops-index.result c.loop-index-test.true c.index-stops-index.is in
    let latest = c.latest_until.ensures (test_of breaks day i) (length day) list c.requires.within in
    let here = hit_other _ c.args.at c.latest_until.result c.requires.some (sym (c.if-eq.ensures {u = tt})) latest in
    below_more (λ k. test_of breaks day k c.args.at ≡ false) i c.loop-index.invariant here

pub returns : goal.returns
returns g c =
    let all = list_count (λ v. v.items) c.args.breaks.now c.args.day.now.payloads c.args.stops.now c.requires.stops in
    hit_none c.args.breaks.now c.args.day.now.payloads c.args.at (λ k lt. c.loop-index.invariant k (omega (arith, all, lt)))
