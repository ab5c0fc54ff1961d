use Rattle.itch_readings.proofs.Listing.{none_listed}
use Rattle.itch_readings.proofs.naming.unlisted.Goals as goal

pub returns : goal.returns
returns g c = none_listed c.in_ok-listed.listed.items (c.in_ok-listed.ensures.items_if_clones_equal (λ y is. is))
