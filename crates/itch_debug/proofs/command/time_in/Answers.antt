use Rattle.std.proofs.Common.{rules}
use Rattle.itch_text.specs.Values.{NumberText}
use Rattle.itch_debug.proofs.Numbers.{number_found, kept_below}
use Rattle.itch_debug.proofs.command.time_in.Goals as goal

pub returns : goal.returns
returns c =
    let written : NumberText c.args.word.now c.in_ok-number.number = search rules in
    rw (number_found 281474976710656 c.in_ok-number.number c.args.word.now written) (kept_below 281474976710656 c.in_ok-number.number c.new.result c.new.ensures.fits c.new.ensures.value)
