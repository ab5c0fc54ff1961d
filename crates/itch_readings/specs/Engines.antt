-- What the engines of readings make of an input, and the faults that they find in one.
use Rattle.std.specs.Prelude.{◌≡◌, ◌^◌, ◌≤◌, ℕ, List, Option, Result, Ok, Err, length}
use Rattle.binaryfile.specs.Devices.{Device, GaveAll, HasFailed}
use Rattle.engine_rules.specs.Limits.{HasTooManyMessages}
use Rattle.engine_rules.specs.Runs.{Engine, Runs}
use Rattle.itch_table.specs.After.{after}
use Rattle.itch_readings.specs.AllStocks.{own_all}
use Rattle.itch_readings.specs.Files.{IsFileOf}
use Rattle.itch_readings.specs.Naming.{AreListed, NamesNone, NamesStock}
use Rattle.itch_readings.specs.OrderLives.{order_text}
use Rattle.itch_readings.specs.OwnMessages.{own_from}
use Rattle.itch_readings.specs.StockLines.{listed_lines}
use Rattle.itch_readings.specs.TopLines.{tops_text}
use Rattle.itch_readings.specs.Tops.{tops_from}
use Rattle.itch_readings.specs.TradeLines.{trades_text}
use Rattle.itch_readings.specs.declared.fault.StockFault.{StockFault}
use Rattle.itch_readings.specs.declared.fault.StockFault.TheVariants.{NoStock, PastEnd, Changed, Engine as OfEngine}
use Rattle.itch_readings.specs.declared.naming.Listed.{Listed}
use Rattle.itch_readings.specs.declared.naming.StockName.{StockName}
use Rattle.itch_readings.specs.declared.top_lines.Selection.{Selection}

-- The text is the lines of the day's stocks.
pub record ListsStocks (text : List ℕ) (day : List (List ℕ)) : Type 0 where
  pub listed : List Listed
  pub are : AreListed day (length day) listed
  pub printed : text ≡ listed_lines 0 listed

-- The day has the stock that is named, and the text is that of the stock's moments from the message on with which it
-- begins.
pub record PrintsTops (name : StockName) (selection : Selection) (text : List ℕ)
    (day : List (List ℕ)) : Type 0 where
  pub message : ℕ
  pub locate : ℕ
  pub named : NamesStock day name message locate
  pub printed : text ≡ tops_text selection (tops_from day locate message)

-- The day has the stock that is named, and the text is the life of the order that has this reference, by the stock's messages
-- from the one on with which it begins.
pub record PrintsOrder (name : StockName) (reference : ℕ) (text : List ℕ) (day : List (List ℕ)) : Type 0 where
  pub message : ℕ
  pub locate : ℕ
  pub named : NamesStock day name message locate
  pub printed : text ≡ order_text (own_from day locate message) (after day (length day)) locate reference

-- The day has the stock that is named, and the text is that of its trades, by the stock's messages from the one on with
-- which it begins.
pub record PrintsStockTrades (name : StockName) (text : List ℕ) (day : List (List ℕ)) : Type 0 where
  pub message : ℕ
  pub locate : ℕ
  pub named : NamesStock day name message locate
  pub printed : text ≡ trades_text (own_from day locate message)

-- The text is that of the trades of all stocks.
abbrev pub PrintsTrades : List ℕ → List (List ℕ) → Type 0
PrintsTrades text day = text ≡ trades_text (own_all day)

-- The file hasn't the stock that is named.
abbrev pub LacksStock : StockName → List ℕ → Type 0
LacksStock name = IsFileOf (λ day. NamesNone day name)

-- The reader, which hadn't failed before, gave a whole input of no more bytes than the engine takes, which lacks the
-- stock, and nothing was sent.
pub record FindsNoStock {A R W : Type 0} (engine : Engine A) (name : StockName) (left : R → Option (List ℕ))
    (feed fed : Device R) (sink sent : Device W) : Type 0 where
  pub input : List ℕ
  pub gave : GaveAll (left feed.device) (left fed.device) input
  pub within : length input ≤ engine.most
  pub lacks : LacksStock name input
  pub worked : ¬ HasFailed feed
  pub works : ¬ HasFailed fed
  pub nothing_sent : sent ≡ sink

-- A run of an engine of one stock, from its feed and its sink as they were to what they are after it: that of any engine,
-- or the input lacks the stock.
abbrev pub RunsOnStock : {A R W : Type 0} → Engine A → StockName
    → (R → Option (List ℕ)) → (W → Option (List ℕ))
    → Device R → Device R → Device W → Device W → Result A StockFault → Type 0
RunsOnStock engine name left taken feed fed sink sent (Ok result) =
    Runs engine left taken feed fed sink sent (Ok result)
RunsOnStock engine name left taken feed fed sink sent (Err (OfEngine fault)) =
    Runs engine left taken feed fed sink sent (Err fault)
RunsOnStock engine name left taken feed fed sink sent (Err NoStock) =
    FindsNoStock engine name left feed fed sink sent
RunsOnStock engine name left taken feed fed sink sent (Err PastEnd) = ⊥
RunsOnStock engine name left taken feed fed sink sent (Err Changed) = ⊥

-- the engine that reads a day file and writes the lines of its stocks
abbrev pub stock_lister : Engine (Unit {0})
stock_lister = record {
  most = 2 ^ 40;
  Makes = λ input output _. IsFileOf (ListsStocks output) input;
  Finds = HasTooManyMessages;
}

-- the engine that reads a day file and writes the best bid and ask of one of its stocks along it
abbrev pub tops_printer : StockName → Selection → Engine (Unit {0})
tops_printer name selection = record {
  most = 2 ^ 40;
  Makes = λ input output _. IsFileOf (PrintsTops name selection output) input;
  Finds = HasTooManyMessages;
}

-- the engine that reads a day file and writes the life of an order of one of its stocks
abbrev pub order_printer : StockName → ℕ → Engine (Unit {0})
order_printer name reference = record {
  most = 2 ^ 40;
  Makes = λ input output _. IsFileOf (PrintsOrder name reference output) input;
  Finds = HasTooManyMessages;
}

-- the engine that reads a day file and writes the trades of one of its stocks
abbrev pub stock_trades_printer : StockName → Engine (Unit {0})
stock_trades_printer name = record {
  most = 2 ^ 40;
  Makes = λ input output _. IsFileOf (PrintsStockTrades name output) input;
  Finds = HasTooManyMessages;
}

-- the engine that reads a day file and writes the trades of all stocks
abbrev pub trades_printer : Engine (Unit {0})
trades_printer = record {
  most = 2 ^ 40;
  Makes = λ input output _. IsFileOf (PrintsTrades output) input;
  Finds = HasTooManyMessages;
}
