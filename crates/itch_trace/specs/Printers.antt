-- The traces of a file, and what a run reads, writes and returns that writes one. All is of this project.
use Rattle.std.specs.Prelude.{◌≡◌, ◌⊎◌, ℕ, ◌-◌, ◌<◌, ◌≤◌, ◌^◌, List, [], length, Option, Some, None, Result, Ok, Err}
use Rattle.binaryfile.specs.Devices.{Device, GaveAll, HasFailed}
use Rattle.binaryfile.specs.Entries.{Contents, Splits}
use Rattle.byte_strings.specs.Bytes.{AreBytes}
use Rattle.std.specs.Io.KnownBytes.{Appends}
use Rattle.day_printing.specs.Printers.{Printer, Prints}
use Rattle.stock_machine.specs.StockRows.{StockMachine}
use Rattle.itch_readings.specs.Naming.{NamesNone, NamesStock}
use Rattle.itch_readings.specs.OwnMessages.{own_from}
use Rattle.itch_readings.specs.declared.fault.StockFault.{StockFault}
use Rattle.itch_readings.specs.declared.fault.StockFault.TheVariants.{Changed, Engine, NoStock, PastEnd}
use Rattle.itch_readings.specs.declared.naming.StockName.{StockName}
use Rattle.itch_trace.specs.Lines.{trace_text}
use Rattle.itch_trace.specs.Messages.{messages_of}
use Rattle.itch_trace.specs.declared.extent.Extent.{Extent}

-- the text is the trace of a file's messages
abbrev pub IsTrace : Extent → Contents → List ℕ → Type 0
IsTrace extent contents text = text ≡ trace_text extent (messages_of contents.payloads)

-- there are messages, and the last one that is wanted, where not all are, is among them
pub record Reaches (extent : Extent) (contents : Contents) : Type 0 where
  pub some : 0 < length contents.payloads
  pub not_all : extent.last < 2 ^ 32 - 1
  pub last : extent.last ≤ length contents.payloads

-- the printer of the trace of a file's messages, which needn't read on after the last one that is wanted
abbrev pub trace_printer : Extent → Printer
trace_printer extent = record { IsText = IsTrace extent; Suffices = Reaches extent }

-- the text is the trace of the messages of the stock with this name, from the one on with which the stock begins
pub record IsStockTrace (extent : Extent) (name : StockName) (contents : Contents)
    (text : List ℕ) : Type 0 where
  pub begins : ℕ
  pub locate : ℕ
  pub names : NamesStock contents.payloads name begins locate
  pub is : text ≡ trace_text extent (own_from contents.payloads locate begins)

-- or there is no such stock, and nothing is written
abbrev pub IsTraceIfAny : Extent → StockName → Contents → List ℕ → Type 0
IsTraceIfAny extent name contents text =
    IsStockTrace extent name contents text ⊎ (NamesNone contents.payloads name × text ≡ [])

-- what was written where the file has ended, by the machine of the stock that was found
abbrev pub EndsStockTrace : Extent → StockName → Option StockMachine → Contents → List ℕ → Type 0
EndsStockTrace extent name None contents text = NamesNone contents.payloads name × text ≡ []
EndsStockTrace extent name (Some stock) contents text = IsStockTrace extent name contents text

-- the stock has begun, and the last message that is wanted, where not all are, has come
pub record ReachesStock (extent : Extent) (name : StockName) (contents : Contents) : Type 0 where
  pub begins : ℕ
  pub locate : ℕ
  pub names : NamesStock contents.payloads name begins locate
  pub not_all : extent.last < 2 ^ 32 - 1
  pub last : extent.last ≤ length contents.payloads

-- the printer of the trace of a stock
abbrev pub stock_trace_printer : Extent → StockName → Printer
stock_trace_printer extent name = record {
  IsText = IsTraceIfAny extent name;
  Suffices = ReachesStock extent name;
}

-- The reader gave a whole file within the limits, which hasn't the stock, and nothing was written.
pub record FindsNone {R W : Type 0} (name : StockName)
    (left : R → Option (List ℕ)) (taken : W → Option (List ℕ))
    (feed fed : Device R) (sink sent : Device W) : Type 0 where
  pub input : List ℕ
  pub contents : Contents
  pub gave : GaveAll (left feed.device) (left fed.device) input
  pub are : AreBytes input
  pub within : length input ≤ 2 ^ 40
  pub split : Splits input contents
  pub few : length contents.payloads ≤ 2 ^ 32 - 1
  pub none : NamesNone contents.payloads name
  pub works : ¬ HasFailed fed
  pub sink_for_good : HasFailed sink → sent ≡ sink
  pub wrote : Appends (taken sink.device) (taken sent.device) []

-- A run of the printer of a stock's trace: that of any printer, or the file hasn't the stock.
abbrev pub TracesStock : {R W : Type 0} → Extent → StockName → ℕ
    → (R → Option (List ℕ)) → (W → Option (List ℕ))
    → Device R → Device R → Device W → Device W → Result (Unit {0}) StockFault → Type 0
TracesStock extent name segment left taken feed fed sink sent (Ok done) =
    Prints (stock_trace_printer extent name) (IsStockTrace extent name) (IsStockTrace extent name)
    segment left taken feed fed sink sent (Ok done)
TracesStock extent name segment left taken feed fed sink sent (Err (Engine fault)) =
    Prints (stock_trace_printer extent name) (IsStockTrace extent name) (IsStockTrace extent name)
    segment left taken feed fed sink sent (Err fault)
TracesStock extent name segment left taken feed fed sink sent (Err NoStock) =
    FindsNone name left taken feed fed sink sent
TracesStock extent name segment left taken feed fed sink sent (Err PastEnd) = ⊥
TracesStock extent name segment left taken feed fed sink sent (Err Changed) = ⊥
