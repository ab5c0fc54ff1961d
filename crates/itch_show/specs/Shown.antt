-- A stock at a place of a day, and the outcome of the last message before the place. All is of this project.
use Rattle.std.specs.Prelude.{◌≡◌, ◌<◌, ◌≤◌, ◌++◌, ℕ, List, [], ◌∷◌, length, MatchOption, Option, Some, None}
use Rattle.std.specs.Io.KnownBytes.{Consumes}
use Rattle.byte_strings.specs.Bytes.{AreBytes}
use Rattle.binaryfile.specs.Entries.{Contents, Splits}
use Rattle.binaryfile.specs.declared.day.Limits.{Limits}
use Rattle.itch_readings.specs.Naming.{NamesNone, NamesStock}
use Rattle.itch_readings.specs.OwnMessages.{OwnMessage}
use Rattle.itch_readings.specs.declared.fault.StockFault.{StockFault}
use Rattle.itch_readings.specs.declared.fault.StockFault.TheVariants.{NoStock, PastEnd, Changed, Engine}
use Rattle.itch_readings.specs.declared.naming.StockName.{StockName}
use Rattle.itch_readings.specs.declared.naming.StockName.TheVariants.{Locate, Symbol}
use Rattle.itch_show.specs.Parts.{BeginsWith, Exceeds}
use Rattle.itch_show.specs.Places.{IsPast, position_of, up_to}
use Rattle.itch_show.specs.declared.last_outcome.LastOutcome.{LastOutcome}
use Rattle.itch_show.specs.declared.place.Place.{Place}
use Rattle.itch_table.specs.declared.outcome.Outcome.{Outcome}
use Rattle.itch_table.specs.declared.outcome.Outcome.TheVariants.{Passed}
use Rattle.itch_table.specs.After.{after, outcome, outcome_at}
use Rattle.itch_table.specs.Projection.{only, payload_at}
use Rattle.stock_machine.specs.StockRows.{StockMachine}
use Rattle.stock_text.specs.Sessions.{shown_text}

-- the stock that a name stands for: a locate code is itself, and a symbol names a stock that has begun in the day
abbrev pub StandsFor : List (List ℕ) → StockName → ℕ → Type 0
StandsFor day (Locate code) locate = locate ≡ code
StandsFor day (Symbol symbol) locate = (n : ℕ) × NamesStock day (Symbol symbol) n locate

-- a name stands for none: a symbol that no stock has
abbrev pub StandsForNone : List (List ℕ) → StockName → Type 0
StandsForNone day (Locate code) = ⊥
StandsForNone day (Symbol symbol) = NamesNone day (Symbol symbol)

-- the text is what a session prints of the stock at the place
pub record PrintsShown (name : StockName) (place : Place) (text : List ℕ) (day : List (List ℕ)) : Type 0 where
  pub there : ¬ IsPast place day
  pub locate : ℕ
  pub stands : StandsFor (up_to place day) name locate
  pub printed : text ≡ shown_text day (position_of place day) locate

-- why nothing is shown of a file. That it changed isn't said of one that gave the same twice.
abbrev pub Refuses : StockName → Place → Limits → List ℕ → Contents → StockFault → Type 0
Refuses name place limits input file NoStock =
    (¬ IsPast place file.payloads) × StandsForNone (up_to place file.payloads) name
Refuses name place limits input file PastEnd = IsPast place file.payloads
Refuses name place limits input file Changed = ⊥
Refuses name place limits input file (Engine fault) = Exceeds limits fault input file

-- ---- what is known after the messages before a place

-- the last message of a stock, where one was noted, has this outcome
abbrev pub IsLastOf : List (List ℕ) → LastOutcome → Type 0
IsLastOf day noted =
    0 < noted.number → (noted.number ≤ length day) × (noted.outcome ≡ outcome day noted.number)

-- the machine of the stock that a name stands for, and its last message
pub record IsShownAfter (day : List (List ℕ)) (name : StockName) (stock : StockMachine)
    (noted : LastOutcome) : Type 0 where
  pub stands : StandsFor day name stock.locate
  pub world : stock.world ≡ only stock.locate (after day (length day))
  pub steps : stock.steps ≤ length day
  pub last : IsLastOf day noted

-- a day was read: the number and the payload of its last message, and the machine of the stock that a name stands for
pub record IsReadTo (day : List (List ℕ)) (name : StockName) (number : ℕ) (payload : List ℕ)
    (stock : Option (StockMachine × LastOutcome)) : Type 0 where
  pub number_is : number ≡ length day
  pub payload_is : payload ≡ payload_at day (length day)
  pub stock_is : MatchOption stock (StandsForNone day name) (λ found. IsShownAfter day name found.0 found.1)

-- a day begins with these messages
abbrev pub StartsWith : List (List ℕ) → List (List ℕ) → Type 0
StartsWith first day = (rest : List (List ℕ)) × (day ≡ first ++ rest)

-- it is known what became of message n of a day, and at 0 that there is none
abbrev pub IsKnownAt : List (List ℕ) → ℕ → Option (Option Outcome) → Type 0
IsKnownAt day n None = ⊥
IsKnownAt day n (Some outcome) = outcome ≡ outcome_at day n

-- the outcome of message n of a file is known, where it has this payload
abbrev pub HasOutcome : ℕ → List ℕ → Option Outcome → List ℕ → Contents → Type 0
HasOutcome n payload None input file = n ≤ length file.payloads → ⊥
HasOutcome n payload (Some found) input file =
    n ≤ length file.payloads → payload ≡ payload_at file.payloads n → found ≡ outcome file.payloads n

-- both readers gave the beginning of a file, all of it where they ended; of each file that begins so this holds
pub record GaveParts (old new old' new' : Option (List ℕ)) (Holds : List ℕ → Contents → Type 0) : Type 0 where
  pub given : List ℕ
  pub gave : Consumes old new given
  pub again : List ℕ
  pub gave_again : Consumes old' new' again
  pub each : (input : List ℕ) (file : Contents) → AreBytes input → Splits input file
      → BeginsWith given new input → BeginsWith again new' input → Holds input file

-- the number and the outcome of the last of a stock's messages
abbrev pub last_noted : List OwnMessage → LastOutcome
last_noted [] = record { number = 0; outcome = Passed }
last_noted (message ∷ []) = record { number = message.number; outcome = message.outcome }
last_noted (message ∷ next ∷ later) = last_noted (next ∷ later)
