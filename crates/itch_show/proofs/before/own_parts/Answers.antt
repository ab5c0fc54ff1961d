use Rattle.std.proofs.Common.{◌∙◌}
use Rattle.itch_show.proofs.OwnParts.{none_noted, own_noted}
use Rattle.itch_show.proofs.before.own_parts.Goals as goal

pub returns-in-Some : goal.returns-in-Some
returns-in-Some g c = λ first day name is taken.
    let found = rw c.in-Some.is at taken.so_far in
    own_noted (g.N.Notes.noted) first day _ c.args.locate (taken.name_is ∙ is) c.in-Some.stock _ found.0 found.1 found.2

pub returns : goal.returns
returns g c = λ first day name is taken.
    let found = rw c.in-None.is at taken.so_far in
    none_noted (g.N.Notes.noted) first day _ c.args.locate (taken.name_is ∙ is) c.new.result _ c.new.ensures.locate c.new.ensures.world c.new.ensures.steps
    (c.locates_are_parts.ensures.others day c.args.locate _) found.0.none found.1
