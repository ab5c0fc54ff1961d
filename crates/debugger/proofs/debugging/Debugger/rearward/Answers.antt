use Rattle.std.proofs.Common.{ℕ, List, sym, ap, subst, ◌∙◌}
use Rattle.debugger.specs.Finding.{IsRearward}
use Rattle.debugger.specs.Sessions.{previous_stop}
use Rattle.debugger.specs.Stops.{stops_at}
use Rattle.debugger.proofs.Searched.{rearward_at}
use Rattle.debugger.proofs.debugging.Debugger.rearward.Goals as goal

pub returns-clause-at : goal.returns-clause-at
returns-clause-at g c =
    let inside = c.self.inside in
    let found = subst (λ (day : List (List ℕ)). IsRearward (stops_at inside.breakpoints.breaks day) inside.position c.previous_stop-at.result) c.self.invariant.breaks_of c.previous_stop-at.ensures in
    sym (rearward_at _ _ _ found) ∙ ap previous_stop c.self.view_is
