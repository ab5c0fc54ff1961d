use Rattle.std.proofs.Common.{◌≡◌, ◌⊎◌, ◌-◌, ◌^◌}
use Rattle.binaryfile.specs.Devices.{HasFailed}
use Rattle.day_printing.specs.Printers.{NeedsLast}
use Rattle.day_printing.proofs.Printed.{IsPrintedTo}
use Rattle.day_printing.proofs.engine.print_day.Given as goal

abbrev pub invariant-segments : goal.invariant-segments
invariant-segments g l = record {
  so_far : IsPrintedTo (g.P.Printing.has_printed l.fn.printing) l.printing (g.R.Read.remaining l.fn.feed.device) (g.R.Read.remaining l.feed.device) l.reader
      (g.W.Write.contents l.fn.sink.device) (g.W.Write.contents l.sink.device);
  size : l.reader.size ≡ l.fn.segment;
  needed : (g.R.Read.remaining l.feed.device ≡ g.R.Read.remaining l.fn.feed.device) ⊎ NeedsLast (g.P.Printing.printer l.fn.printing) (g.R.Read.remaining l.fn.feed.device) (g.R.Read.remaining l.feed.device) l.fn.segment;
  works : ¬ HasFailed l.feed;
  sink_for_good : HasFailed l.fn.sink → l.sink ≡ l.fn.sink;
}

abbrev pub decreases-segments : goal.decreases-segments
decreases-segments g l = 2 ^ 40 - l.reader.given
