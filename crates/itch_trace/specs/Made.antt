-- Lines of a trace that were made and are still to be sent, and what was written of a file before. All is of this project.
use Rattle.std.specs.Prelude.{◌≡◌, ◌<◌, ◌++◌, ℕ, Bool, true, false, if◌then◌else◌, List, [], Option, Some, None, length}
use Rattle.binaryfile.specs.Entries.{Contents}
use Rattle.stock_machine.specs.StockRows.{StockMachine}
use Rattle.itch_readings.specs.AllStocks.{HasNotedAll}
use Rattle.itch_readings.specs.Noting.{HasTaken, Noting}
use Rattle.itch_readings.specs.OwnMessages.{OwnMessage}
use Rattle.itch_readings.specs.Searching.{Search}
use Rattle.itch_readings.specs.declared.naming.StockName.{StockName}
use Rattle.itch_trace.specs.Lines.{head_line, lines_of}
use Rattle.itch_trace.specs.Messages.{messages_of}
use Rattle.itch_trace.specs.declared.extent.Extent.{Extent}

-- lines that were made, and how much of a trace is wanted
pub record MadeLines : Type 0 where
  pub extent : Extent
  pub text : List ℕ

-- after the lines that were sent these are the others of some messages
pub record AreMade (sent now : MadeLines) (messages : List OwnMessage) : Type 0 where
  pub same : now.extent ≡ sent.extent
  pub lines : sent.text ++ now.text ≡ lines_of sent.extent messages

-- so much of the first line is still to be written
abbrev pub head_left : Bool → ℕ → List ℕ
head_left begun depth = if begun then [] else head_line depth

-- this was written: the first line, where the trace has begun, and then some lines
pub record IsBegun (extent : Extent) (begun : Bool) (sent text : List ℕ) : Type 0 where
  pub none : begun ≡ false → sent ≡ []
  pub is : text ≡ (if begun then head_line extent.depth else []) ++ sent

-- nothing is said of notes
abbrev pub Anything : Noting (Unit {0})
Anything first now messages = Unit {0}

-- so many messages of a day were taken by the machines of their stocks, and these lines were made of them and not yet sent
pub record HasTraced (sent : MadeLines) (day : List (List ℕ)) (machines : List (Option StockMachine))
    (count : ℕ) (made : MadeLines) : Type 0 where
  pub took : HasNotedAll Anything tt day machines count tt
  pub lines : AreMade sent made (messages_of day)

-- a file was read so far, and this was written of its trace
pub record IsTraced (extent : Extent) (machines : List (Option StockMachine)) (count : ℕ) (made : MadeLines)
    (begun : Bool) (read : Contents) (text : List ℕ) : Type 0 where
  pub sent : List ℕ
  pub traced : HasTraced (record { extent = extent; text = sent }) read.payloads machines count made
  pub written : IsBegun extent begun sent text
  pub all_sent : 0 < length read.payloads → (begun ≡ true) × (made.text ≡ [])

-- nothing was written of a stock's trace before the stock has begun, and after it the lines that were made are all sent
abbrev pub AreSent : Option StockMachine → Bool → MadeLines → Type 0
AreSent None begun made = begun ≡ false
AreSent (Some stock) begun made = (begun ≡ true) × (made.text ≡ [])

-- the same of the trace of the stock with this name
pub record IsStockTraced (extent : Extent) (name : StockName) (search : Search) (count : ℕ)
    (stock : Option StockMachine) (made : MadeLines) (begun : Bool) (read : Contents) (text : List ℕ) : Type 0
  where
    pub sent : List ℕ
    pub took : HasTaken AreMade (record { extent = extent; text = sent }) read.payloads name search
        count stock made
    pub written : IsBegun extent begun sent text
    pub all_sent : AreSent stock begun made
