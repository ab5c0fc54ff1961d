use Rattle.std.proofs.Common.{◌∙◌}
use Rattle.itch_readings.proofs.WordNames.{code-parsed}
use Rattle.itch_readings.proofs.naming.code_of.Goals as goal

pub returns : goal.returns
returns c = λ all. c.ok.ensures.value ∙ code-parsed c.args.digits.now c.parse.result c.parse.ensures.value.0 all
