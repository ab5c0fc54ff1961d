use Rattle.std.proofs.Common.{◌∙◌, arith, get_or}
use Rattle.std.proofs.lemmas.List.{length-set}
use Rattle.itch_readings.proofs.WordNames.{copied, spaces_left}
use Rattle.itch_readings.proofs.naming.symbol_of.Goals as goal

pub loop-index-preserved : goal.loop-index-preserved
loop-index-preserved c =
    let text = c.args.text.now in
    let symbol = c.loop-index.symbol in
    let index = c.loop-index.index in
    let before = c.loop-index.invariant in
    record {
      long = length-set symbol index (get_or text index 0) ∙ before.long;
      taken = copied text symbol index (omega arith) (omega arith) before.taken;
      left = spaces_left symbol index (get_or text index 0) before.left;
    }
