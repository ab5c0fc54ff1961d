use Rattle.std.proofs.Common.{rules, arith}
use Rattle.std.proofs.lemmas.Grind.{common_steps}
use Rattle.std.proofs.lemmas.Bool.Decides.{nat_tests}
use Rattle.itch_text.specs.Values.{NumberText}
use Rattle.itch_debug.proofs.Numbers.{number_found}
use Rattle.itch_debug.proofs.command.locate_in.Goals as goal

pub returns : goal.returns
returns c =
    let written : NumberText c.args.word.now c.in_ok-number.number = search rules in
    rw (number_found 65536 c.in_ok-number.number c.args.word.now written) (grind (arith, common_steps, nat_tests, c.try_from.ensures, c.ok.ensures.value))
