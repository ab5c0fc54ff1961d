use Rattle.itch_dis.proofs.Extended.{denotes_file, prints_extent}
use Rattle.itch_dis.specs.Printers.{IsWholeText, whole_text}
use Rattle.itch_dis.specs.declared.extent.Extent.TheVariants.{Whole}
use Rattle.day_printing.proofs.Weaker.{prints_so}
use Rattle.itch_dis.proofs.engines.dis_stream_run.Goals as goal

pub returns : goal.returns
returns g c =
    let text = c.new-text.result in
    let then = c.print_day.new.printing in
    prints_so whole_text _ _ IsWholeText IsWholeText c.args.segment g.R.Read.remaining g.W.Write.contents c.args.feed.now c.print_day.new.feed c.args.sink.now c.print_day.new.sink
    (λ contents text suffices is. absurd suffices) denotes_file c.print_day.result
    (prints_extent text.extent Whole c.new-text.ensures.extent then.extent then.end c.args.segment g.R.Read.remaining g.W.Write.contents c.args.feed.now c.print_day.new.feed c.args.sink.now c.print_day.new.sink c.print_day.result c.print_day.ensures)
