use Rattle.std.proofs.Common.{refl}
use Rattle.itch_dis.proofs.Extended.{prints_extent, printed_first}
use Rattle.itch_dis.proofs.engines.dis_part_run.Goals as goal

pub print_day-requires-clause-none : goal.print_day-requires-clause-none
print_day-requires-clause-none g c =
    let text = c.new-text.result in
    printed_first text.extent text.extent text.end refl c.new-text.ensures.end

pub returns : goal.returns
returns g c =
    let text = c.new-text.result in
    let then = c.print_day.new.printing in
    prints_extent text.extent _ c.new-text.ensures.extent then.extent then.end c.args.segment g.R.Read.remaining g.W.Write.contents c.args.feed.now c.print_day.new.feed c.args.sink.now c.print_day.new.sink c.print_day.result c.print_day.ensures
