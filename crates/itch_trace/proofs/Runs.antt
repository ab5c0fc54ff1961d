-- How a run ends that writes a trace.
use Rattle.std.proofs.Common.{◌≡◌, ℕ, Bool, List, [], Option, Some, None, Ok, refl, sym, ap, subst, append-nil, inl, inr}
use Rattle.std.specs.Prelude.{IsSome, Result}
use Rattle.std.specs.Io.KnownBytes.{Appends}
use Rattle.binaryfile.specs.Devices.{Device}
use Rattle.binaryfile.specs.Entries.{Contents}
use Rattle.engine_rules.specs.declared.fault.ProgFault.{ProgFault}
use Rattle.stock_machine.specs.StockRows.{StockMachine}
use Rattle.itch_readings.specs.Naming.{NamesNone, NamesStock}
use Rattle.itch_readings.specs.OwnMessages.{own_from}
use Rattle.itch_readings.specs.Searching.{Search}
use Rattle.itch_readings.specs.declared.naming.StockName.{StockName}
use Rattle.day_printing.specs.Printers.{Ends, Prints}
use Rattle.engine_rules.specs.Runs.{traffic_of}
use Rattle.std.proofs.lemmas.Bool.{false≢true}
use Rattle.day_printing.proofs.Weaker.{prints_so}
use Rattle.itch_trace.specs.Lines.{trace_text}
use Rattle.itch_trace.specs.Made.{IsStockTraced, IsTraced, MadeLines}
use Rattle.itch_trace.specs.Messages.{messages_of}
use Rattle.itch_trace.specs.Printers.{EndsStockTrace, FindsNone, IsStockTrace, IsTrace, Reaches, ReachesStock, stock_trace_printer, trace_printer}
use Rattle.itch_trace.specs.declared.extent.Extent.{Extent}
use Rattle.itch_trace.proofs.Written.{is_all}

-- ---- of all messages

traced_all : (extent : Extent) (machines : List (Option StockMachine)) (count : ℕ) (made : MadeLines) (begun : Bool) (read : Contents) (text : List ℕ) → Reaches extent read → IsTraced extent machines count made begun read text → IsTrace extent read text
traced_all extent machines count made begun read text reaches before =
    let messages = messages_of read.payloads in
    let all = before.all_sent reaches.some in
    is_all extent begun before.sent text made messages before.traced.lines before.written [] (trace_text extent messages) all.0 all.1 refl (ap (trace_text extent) (sym (append-nil messages)))

pub trace_runs : {R W : Type 0} (is extent : Extent) → is ≡ extent → (machines : List (Option StockMachine)) (count : ℕ) (made : MadeLines) (begun : Bool) (segment : ℕ) (left : R → Option (List ℕ)) (taken : W → Option (List ℕ)) (feed fed : Device R) (sink sent : Device W) (result : Result (Unit {0}) ProgFault)
    → Prints (trace_printer is) (IsTraced is machines count made begun) (IsTrace is) segment left taken feed fed sink sent result
    → Prints (trace_printer extent) (IsTrace extent) (IsTrace extent) segment left taken feed fed sink sent result
trace_runs is extent same machines count made begun segment left taken feed fed sink sent result run =
    subst (λ (e : Extent). Prints (trace_printer e) (IsTrace e) (IsTrace e) segment left taken feed fed sink sent result) same
    (prints_so (trace_printer is) _ _ (IsTrace is) (IsTrace is) segment left taken feed fed sink sent (λ read text. traced_all is machines count made begun read text) (λ read text ended. ended) result run)

-- ---- of a stock's

module _ (extent : Extent) (name : StockName) (search : Search) (count : ℕ) (made : MadeLines) (begun : Bool) where
  none_reached : (read : Contents) (text : List ℕ) → ReachesStock extent name read → ¬ IsStockTraced extent name search count None made begun read text
  none_reached read text reaches before =
      (subst (NamesNone read.payloads) before.took.name_is before.took.so_far.0.none) reaches.begins reaches.names.some reaches.names.within reaches.names.begins

  some_traced : (stock : StockMachine) (read : Contents) (text : List ℕ) → ReachesStock extent name read → IsStockTraced extent name search count (Some stock) made begun read text → IsStockTrace extent name read text
  some_traced stock read text reaches before =
      let found = before.took.so_far in
      let messages = own_from read.payloads stock.locate found.0 in
      record {
        begins = found.0;
        locate = stock.locate;
        names = subst (λ (s : StockName). NamesStock read.payloads s found.0 stock.locate) before.took.name_is found.1;
        is = is_all extent begun before.sent text made messages found.2.noted before.written [] (trace_text extent messages) before.all_sent.0 before.all_sent.1 refl (ap (trace_text extent) (sym (append-nil messages)));
      }

  module _ {R W : Type 0} (segment : ℕ) (left : R → Option (List ℕ)) (taken : W → Option (List ℕ)) (feed fed : Device R) (sink sent : Device W) where
    -- the run, that went well
    abbrev Ran : Option StockMachine → Result (Unit {0}) ProgFault → Type 0
    Ran stock = Prints (stock_trace_printer extent name) (IsStockTraced extent name search count stock made begun) (EndsStockTrace extent name stock) segment left taken feed fed sink sent

    pub stock_found : (stock : Option StockMachine) → IsSome stock → (result : Result (Unit {0}) ProgFault) → result ≡ Ok tt → Ran stock result
        → Prints (stock_trace_printer extent name) (IsStockTrace extent name) (IsStockTrace extent name) segment left taken feed fed sink sent (Ok tt)
    stock_found None some result is run = absurd (false≢true some)
    stock_found (Some stock) some result is run =
        prints_so (stock_trace_printer extent name) _ _ (IsStockTrace extent name) (IsStockTrace extent name) segment left taken feed fed sink sent (λ read text. some_traced stock read text) (λ read text ended. ended) (Ok tt)
        (subst (Ran (Some stock)) is run)

    pub stock_missing : (stock : Option StockMachine) → ¬ IsSome stock → (result : Result (Unit {0}) ProgFault) → result ≡ Ok tt → Ran stock result → FindsNone name left taken feed fed sink sent
    stock_missing (Some stock) none result is run = absurd (none refl)
    stock_missing None none result is before = by (subst (Ran None) is before)
      where
        by : Ran None (Ok tt) → FindsNone name left taken feed fed sink sent
        by run = ended run run.ends
          where
            ended : Ran None (Ok tt) → Ends (stock_trace_printer extent name) (IsStockTraced extent name search count None made begun) (EndsStockTrace extent name None) segment (traffic_of left taken feed fed sink sent) (Ok tt) → FindsNone name left taken feed fed sink sent
            ended run (inl whole) = record {
              input = whole.input;
              contents = whole.contents;
              gave = whole.gave;
              are = whole.are;
              within = whole.within;
              split = whole.split;
              few = whole.few;
              none = whole.ended.0;
              sink_for_good = run.sink_for_good;
              works = λ failed. let e = run.read.1 failed in absurd cc;
              wrote = subst (Appends (taken sink.device) (taken sent.device)) whole.ended.1 whole.wrote;
            }
            ended run (inr enough) = absurd (none_reached enough.contents enough.written enough.suffices enough.printed)
