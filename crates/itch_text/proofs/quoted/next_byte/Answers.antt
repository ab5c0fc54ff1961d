use Rattle.std.proofs.Common.{sym, ap, ◌∙◌, arith, drop}
use Rattle.itch_text.specs.Values.{unescaped, with_first}
use Rattle.itch_text.proofs.Escapes.{plain_first, escaped_byte}
use Rattle.itch_text.proofs.FirstLine.{rest_all}
use Rattle.itch_text.proofs.quoted.next_byte.Goals as goal

pub returns-then-denotes_itself-clause-byte : goal.returns-then-denotes_itself-clause-byte
returns-then-denotes_itself-clause-byte c = rw (rest_all c.args.text.now 1) (plain_first c.args.text.now c.requires (sym c.denotes_itself.ensures ∙ c.if-denotes_itself.true))

pub returns-in-Some-clause-byte : goal.returns-in-Some-clause-byte
returns-in-Some-clause-byte c = rw (rest_all c.args.text.now 4) (escaped_byte c.args.text.now (omega arith) (omega arith) (omega arith) ∙ ap (λ o. with_first o (unescaped (drop 4 c.args.text.now))) (sym c.in-Some.ensures))
