use Rattle.itch_show.proofs.ReadingParts.{had_failed}
use Rattle.itch_show.proofs.stock_at_place.stock_at_place.Goals as goal

pub returns-then-failed-clause-fault : goal.returns-then-failed-clause-fault
returns-then-failed-clause-fault g c = had_failed (g.R.Read.remaining c.args.feed.now.device) c.args.limits
