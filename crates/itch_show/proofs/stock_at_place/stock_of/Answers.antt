use Rattle.itch_show.proofs.LastNoted.{shown_after}
use Rattle.itch_show.proofs.stock_at_place.stock_of.Goals as goal

pub returns-in-Some : goal.returns-in-Some
returns-in-Some g c = λ first day taken.
    let found = rw c.in-Some.is at (c.into_parts.ensures first day c.args.name taken) in
    shown_after first day c.args.name found.0 _ _ found.1 found.2
