use Rattle.itch_text.proofs.AfterPrefixes.{stripped_by}
use Rattle.itch_text.proofs.fields.after_prefix.Goals as goal

pub returns : goal.returns
returns c = stripped_by (λ x. x.now) c.args.prefix.now c.args.text.now c.strip_prefix.result c.strip_prefix.ensures.cases
