use Rattle.std.proofs.Common.{arith}
use Rattle.std.proofs.lemmas.List.Elements.{All-from_get_or}
use Rattle.byte_strings.specs.Bytes.{IsByte}
use Rattle.itch_layouts.proofs.Uniqueness.{fits}
use Rattle.itch_layouts.proofs.shape.read_msg.Goals as goal

pub returns-clause-fits : goal.returns-clause-fits
returns-clause-fits c m = fits c.args.payload.now c.read_shape.result m (All-from_get_or IsByte _ 0 (λ i l. omega (arith, c.type_inv.payload i))) c.read_shape.ensures
