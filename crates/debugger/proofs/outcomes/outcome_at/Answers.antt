use Rattle.std.proofs.Common.{◌≤◌, ◌-◌, List, ℕ, sym, ap, ◌∙◌, arith}
use Rattle.day_core.specs.Owners.{machine_of}
use Rattle.day_core.proofs.MachineSteps.{payload_is}
use Rattle.debugger.proofs.Shown.{outcome_few, outcome_fixed, outcome_own, outcome_takes}
use Rattle.debugger.proofs.outcomes.outcome_at.Goals as goal

pub step-requires-clause-own : goal.step-requires-clause-own
step-requires-clause-own g c =
    let some : 1 ≤ c.args.n = omega arith in
    let here = payload_is _ c.args.n _ some c.requires.within c.payload-payload.ensures in
    let is = c.in_ok-stock-in-Locate.ensures.stock ∙ ap (λ (d : List (List ℕ)). machine_of d c.in-Locate.locate (c.args.n - 1)) c.requires.tracks in
    outcome_takes _ c.args.n some _ here c.in-Locate.locate (sym c.part.ensures ∙ c.in-Locate.is) _ is

pub step-requires-clause-few : goal.step-requires-clause-few
step-requires-clause-few g c =
    let some : 1 ≤ c.args.n = omega arith in
    let here = payload_is _ c.args.n _ some c.requires.within c.payload-payload.ensures in
    let is = c.in_ok-stock-in-Locate.ensures.stock ∙ ap (λ (d : List (List ℕ)). machine_of d c.in-Locate.locate (c.args.n - 1)) c.requires.tracks in
    outcome_few _ c.args.n some _ here c.in-Locate.locate (sym c.part.ensures ∙ c.in-Locate.is) _ is c.requires.within c.ranges.n.fits

pub returns-in-Nowhere-clause-outcome : goal.returns-in-Nowhere-clause-outcome
returns-in-Nowhere-clause-outcome g c =
    let some : 1 ≤ c.args.n = omega arith in
    let here = payload_is _ c.args.n _ some c.requires.within c.payload-payload.ensures in
    outcome_fixed _ c.args.n some _ here c.in-Nowhere.outcome (sym c.part.ensures ∙ c.in-Nowhere.is)

pub returns-in_ok-outcome-in-Locate-clause-outcome : goal.returns-in_ok-outcome-in-Locate-clause-outcome
returns-in_ok-outcome-in-Locate-clause-outcome g c =
    let some : 1 ≤ c.args.n = omega arith in
    let here = payload_is _ c.args.n _ some c.requires.within c.payload-payload.ensures in
    let is = c.in_ok-stock-in-Locate.ensures.stock ∙ ap (λ (d : List (List ℕ)). machine_of d c.in-Locate.locate (c.args.n - 1)) c.requires.tracks in
    let left = c.in_ok-outcome-in-Locate.ensures in
    outcome_own _ c.args.n some _ here c.in-Locate.locate (sym c.part.ensures ∙ c.in-Locate.is) _ is c.step.new.self _ c.step.ensures.locate left.steps left.ok
