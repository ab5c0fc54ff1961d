use Rattle.std.proofs.Common.{List, length, ap, subst, sym, arith}
use Rattle.checkpoints.specs.Copies.{Tracked}
use Rattle.debugger.specs.Sessions.{AreTracks}
use Rattle.debugger.proofs.Recent.{tracks_removed}
use Rattle.debugger.proofs.tracks.Tracks.take.Goals as goal

pub invariant_of-self : goal.invariant_of-self
invariant_of-self g c =
    let inside = c.self.inside in
    let removed = tracks_removed inside.index inside.every inside.busy.items inside.recent.items c.self.invariant c.in-Some.at (omega (arith, c.in-Some.ensures.within, ap length c.deref.ensures.value)) in
    subst (λ (ts : List Tracked). AreTracks inside.index inside.every inside.busy.items ts) (sym c.remove.ensures.items) removed
