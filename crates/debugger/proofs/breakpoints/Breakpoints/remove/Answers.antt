use Rattle.std.proofs.Common.{ap, map, ◌∙◌, sym}
use Rattle.debugger.specs.Stops.{stops_of}
use Rattle.debugger.proofs.Nearest.{list_removed}
use Rattle.debugger.proofs.breakpoints.Breakpoints.remove.Goals as goal

pub invariant_of-self : goal.invariant_of-self
invariant_of-self g c =
    let day = c.self.inside.day.now.payloads in
    ap (map (λ v. v.items)) c.remove.ensures.items
    ∙ list_removed (λ v. v.items) c.self.inside.breaks.keys day c.self.inside.stops.items c.self.invariant c.args.index
    ∙ ap (map (stops_of day)) (sym c.shift_remove_index.ensures.keys)
