use Rattle.std.proofs.Common.{List, ◌∷◌, ap, subst, sym, ◌∙◌, arith}
use Rattle.std.proofs.lemmas.List.{length-take}
use Rattle.checkpoints.specs.Copies.{Tracked}
use Rattle.debugger.specs.Sessions.{AreTracks, Copied, IsOf}
use Rattle.debugger.proofs.Recent.{tracks_dropped, tracks_kept}
use Rattle.debugger.proofs.tracks.Tracks.keep.Goals as goal

pub invariant_of-self : goal.invariant_of-self
invariant_of-self g c =
    let inside = c.self.inside in
    subst (λ (ts : List Tracked). AreTracks inside.index inside.every inside.busy.items ts) (sym (c.in_err-insert.ensures.items ∙ c.truncate.ensures.items))
    (tracks_dropped inside.index inside.every inside.busy.items inside.recent.items c.self.invariant 63)

pub invariant_of-self-2 : goal.invariant_of-self-2
invariant_of-self-2 g c =
    let inside = c.self.inside in
    let dropped = tracks_dropped inside.index inside.every inside.busy.items inside.recent.items c.self.invariant 63 in
    subst (λ (ts : List Tracked). AreTracks inside.index inside.every inside.busy.items ts)
    (sym (c.in_ok-insert.ensures.items ∙ ap (λ (ts : List Tracked). c.args.track ∷ ts) c.truncate.ensures.items))
    (tracks_kept inside.index inside.every inside.busy.items _ dropped c.args.track (subst (λ (s : Copied). IsOf s.day s.every c.args.track) (sym c.self.view_is) c.requires) (omega (arith, length-take 63 inside.recent.items)))
