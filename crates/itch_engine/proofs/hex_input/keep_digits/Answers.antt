use Rattle.std.proofs.Common.{rules}
use Rattle.std.proofs.lemmas.List.Elements.{filter_from_retain}
use Rattle.itch_engine.specs.HexInput.{is_kept}
use Rattle.itch_engine.proofs.hex_input.keep_digits.Goals as goal

pub returns : goal.returns
returns g c = filter_from_retain _ is_kept (λ p x b q h. search rules) _ _ _ c.retain.ensures.filtered
