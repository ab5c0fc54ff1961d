use Rattle.std.proofs.Common.{rules, ◌<◌, ◌^◌, lit≤}
use Rattle.std.specs.Prelude.{IfSome}
use Rattle.itch_debug.proofs.Numbers.{number_is}
use Rattle.itch_debug.proofs.command.number_in.Goals as goal

pub returns : goal.returns
returns c =
    let fits : IfSome c.number_of_text.result (λ n. n < 2 ^ 64) = search rules in
    number_is (2 ^ 64) c.args.word.now c.number_of_text.result (lit≤ tt) c.number_of_text.ensures.some c.number_of_text.ensures.none fits
