use Rattle.std.proofs.Common.{◌++◌, ℕ, List, ap, ◌∙◌, arith, map}
use Rattle.std.specs.List.{flat_map}
use Rattle.itch_print.specs.Disassembly.{ended, lines_between, payload_line}
use Rattle.itch_print.proofs.Between.{between_all}
use Rattle.itch_print.proofs.disassembling.put_between.Goals as goal

pub returns : goal.returns
unfolding lines_between
returns g c =
    let before = c.loop-index.invariant in
    before.lines ∙ ap (λ (lines : List (List ℕ)). c.args.text.now.items ++ flat_map ended (map payload_line lines))
    (between_all c.args.day.now.payloads _ c.args.last c.loop-index.index before.began (omega (arith, c.loop-index-test.false)) before.within)
