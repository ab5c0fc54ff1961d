-- A run of which less is said.
use Rattle.std.proofs.Common.{ℕ, List, Ok, Err, inl, inr}
use Rattle.std.specs.Prelude.{Option, Result}
use Rattle.binaryfile.specs.Devices.{Device}
use Rattle.binaryfile.specs.Entries.{Contents}
use Rattle.engine_rules.specs.Runs.{Traffic, traffic_of}
use Rattle.engine_rules.specs.declared.fault.ProgFault.{ProgFault}
use Rattle.day_printing.specs.Printers.{Ends, Printer, Prints}

-- what holds of what was written may be replaced by what follows from it
module _ {R W : Type 0} (printer : Printer) (Printed Ended Printed' Ended' : Contents → List ℕ → Type 0) (segment : ℕ) (left : R → Option (List ℕ)) (taken : W → Option (List ℕ)) (feed fed : Device R) (sink sent : Device W)
    (printed : (contents : Contents) (text : List ℕ) → printer.Suffices contents → Printed contents text → Printed' contents text) (ended : (contents : Contents) (text : List ℕ) → Ended contents text → Ended' contents text) where
  abbrev on : Traffic
  on = traffic_of left taken feed fed sink sent

  ends_so : (result : Result (Unit {0}) ProgFault) → Ends printer Printed Ended segment on result → Ends printer Printed' Ended' segment on result
  ends_so (Ok _) (inl whole) = inl (record {
    input = whole.input;
    contents = whole.contents;
    gave = whole.gave;
    are = whole.are;
    within = whole.within;
    split = whole.split;
    few = whole.few;
    unfinished = whole.unfinished;
    text = whole.text;
    ended = ended whole.contents whole.text whole.ended;
    wrote = whole.wrote;
  })
  ends_so (Ok _) (inr enough) = inr (record {
    given = enough.given;
    contents = enough.contents;
    gave = enough.gave;
    split = enough.split;
    suffices = enough.suffices;
    needed = enough.needed;
    written = enough.written;
    printed = printed enough.contents enough.written enough.suffices enough.printed;
    wrote = enough.wrote;
    every = enough.every;
  })
  ends_so (Err fault) stops = stops

  pub prints_so : (result : Result (Unit {0}) ProgFault) → Prints printer Printed Ended segment left taken feed fed sink sent result → Prints printer Printed' Ended' segment left taken feed fed sink sent result
  prints_so result run = record {
    ends = ends_so result run.ends;
    takes_at_most = run.takes_at_most;
    read = run.read;
    write = run.write;
    feed_for_good = run.feed_for_good;
    sink_for_good = run.sink_for_good;
  }
