use Rattle.std.proofs.Common.{ap, sym, ◌∙◌}
use Rattle.itch_table.specs.World.{World, is_spent, key}
use Rattle.itch_table.proofs.Keys.{key_total}
use Rattle.itch_table.proofs.SetViews.{contains_set}
use Rattle.itch_table.proofs.rows.Rows.is_spent.Goals as goal

pub returns : goal.returns
returns g c =
    c.contains.ensures ∙ sym (contains_set key_total c.self.inside.spent.keys (key c.args.locate c.args.reference))
    ∙ ap (λ (w : World). is_spent w c.args.locate c.args.reference) c.self.view_is
