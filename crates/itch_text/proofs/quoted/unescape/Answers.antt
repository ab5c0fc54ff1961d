use Rattle.std.proofs.Common.{sym, ◌∙◌, eqb-true}
use Rattle.itch_text.proofs.Escapes.{finished}
use Rattle.itch_text.proofs.quoted.unescape.Goals as goal

pub returns-clause-value : goal.returns-clause-value
returns-clause-value c = finished c.args.width c.bytes.length c.bytes.bytes c.args.inner.now c.bytes.rest.now (eqb-true _ _ (sym c.is_empty.ensures ∙ c.bytes-test.false)) c.bytes.invariant.within c.requires c.bytes.invariant.long c.bytes.invariant.left c.bytes.invariant.read
