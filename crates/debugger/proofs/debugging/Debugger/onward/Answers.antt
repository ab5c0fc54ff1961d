use Rattle.std.proofs.Common.{ℕ, List, length, sym, ap, subst, ◌∙◌}
use Rattle.debugger.specs.Finding.{IsOnward}
use Rattle.debugger.specs.Sessions.{next_stop}
use Rattle.debugger.specs.Stops.{stops_at}
use Rattle.debugger.proofs.Searched.{onward_at}
use Rattle.debugger.proofs.debugging.Debugger.onward.Goals as goal

pub returns-clause-at : goal.returns-clause-at
returns-clause-at g c =
    let inside = c.self.inside in
    let found = subst (λ (day : List (List ℕ)). IsOnward (stops_at inside.breakpoints.breaks day) inside.position (length day) c.next_stop-at.result) c.self.invariant.breaks_of c.next_stop-at.ensures in
    sym (onward_at _ _ _ _ found) ∙ ap next_stop c.self.view_is
