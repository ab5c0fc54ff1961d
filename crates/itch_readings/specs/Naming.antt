-- The stocks of a day, and how they are named. The directory message is Nasdaq TotalView-ITCH 5.0's "Stock Directory";
-- the rest is of this project.
use Rattle.std.specs.Prelude.{◌≡◌, ◌<◌, ◌≤◌, ◌&&◌, ℕ, zero, suc, nat_lt, nat_le, if◌then◌else◌, List, [], length, Option, Some, None, option_map, slice_index_or, unwrap_or}
use Rattle.std.specs.Char.{is_ascii_digit}
use Rattle.std.specs.List.{list_all}
use Rattle.std.specs.Option.{option_or}
use Rattle.std.specs.Str.Parse.{digits_value}
use Rattle.itch_layouts.specs.Shapes.{shape_of}
use Rattle.itch_layouts.specs.declared.message.Msg.TheVariants.{Directory}
use Rattle.itch_layouts.specs.declared.shape.Shape.{Shape}
use Rattle.itch_layouts.specs.declared.shape.Shape.TheVariants.{Known}
use Rattle.itch_table.specs.declared.outcome.Outcome.{Outcome}
use Rattle.itch_table.specs.declared.outcome.Outcome.TheVariants.{Applied}
use Rattle.itch_table.specs.declared.outcome.Part.TheVariants.{Locate as OfStock}
use Rattle.itch_table.specs.After.{outcome}
use Rattle.itch_table.specs.Parts.{part}
use Rattle.itch_table.specs.Projection.{is_of_stock, payload_at, steps_of}
use Rattle.itch_text.specs.Parsing.{between_quotes}
use Rattle.itch_text.specs.Values.{padded}
use Rattle.itch_readings.specs.declared.naming.Listed.{Listed}
use Rattle.itch_readings.specs.declared.naming.StockName.{StockName}
use Rattle.itch_readings.specs.declared.naming.StockName.TheVariants.{Locate, Symbol}

-- ---- symbols

-- the symbol that a directory message gives its stock
abbrev pub symbol_by_shape : Shape → Option (List ℕ)
symbol_by_shape (Known (Directory head m)) = Some m.stock
symbol_by_shape other = None

abbrev pub symbol_by : List ℕ → Option (List ℕ)
symbol_by payload = symbol_by_shape (shape_of payload)

-- the symbol that a payload gives a stock, where it is the stock's directory message
abbrev pub symbol_for : ℕ → List ℕ → Option (List ℕ)
symbol_for locate payload = if is_of_stock locate payload then symbol_by payload else None

-- the symbol of a stock after the first n messages of a day: that of its first directory message among them
unfoldable pub symbol_until : List (List ℕ) → ℕ → ℕ → Option (List ℕ)
symbol_until day locate zero = None
symbol_until day locate (suc n) =
    option_or (symbol_until day locate n) (symbol_for locate (slice_index_or day n []))

-- ---- lists of stocks

-- what the first n messages of a day say of the stock of a locate code
abbrev pub listed_until : List (List ℕ) → ℕ → ℕ → Listed
listed_until day n locate = record { symbol = symbol_until day locate n; messages = steps_of day locate n }

-- what they say of each stock, by its locate code
pub record AreListed (day : List (List ℕ)) (n : ℕ) (listed : List Listed) : Type 0 where
  pub long : length listed ≡ 0x1_0000
  pub each : (locate : ℕ) (d : Listed) → locate < 0x1_0000
      → slice_index_or listed locate d ≡ listed_until day n locate

-- ---- how a word names a stock

-- the locate code that decimal digits write: at least one, of a value below 65,536
abbrev pub code_of : List ℕ → Option ℕ
code_of digits =
    if nat_lt 0 (length digits) && nat_lt (digits_value 10 digits) 0x1_0000
    then Some (digits_value 10 digits) else None

-- a word without its quotes, where it stands between two
abbrev pub unquoted : List ℕ → List ℕ
unquoted word = unwrap_or (between_quotes word) word

-- the symbol of a text: at most eight bytes, filled up with spaces
abbrev pub symbol_of : List ℕ → Option (List ℕ)
symbol_of text = if nat_le (length text) 8 then Some (padded 8 text) else None

-- the stock that a word names, if it names one: digits alone are a locate code, and any other word is a symbol
abbrev pub named_by : List ℕ → Option StockName
named_by word =
    if list_all is_ascii_digit word then option_map Locate (code_of word)
    else option_map Symbol (symbol_of (unquoted word))

-- ---- the stock that is named

-- a message, which has this outcome, is one with which a stock of that name begins: by a locate code any message of that
-- code, and by a symbol a directory message that gives it and is applied
abbrev pub BeginsBy : StockName → List ℕ → Outcome → Type 0
BeginsBy (Locate locate) payload found = part payload ≡ OfStock locate
BeginsBy (Symbol symbol) payload found = (symbol_by payload ≡ Some symbol) × (found ≡ Applied)

-- message n of a day is such a one
abbrev pub Begins : List (List ℕ) → StockName → ℕ → Type 0
Begins day name n = BeginsBy name (payload_at day n) (outcome day n)

-- the name is that of the stock with this locate code, which begins with message n of the day: the first such one
pub record NamesStock (day : List (List ℕ)) (name : StockName) (n locate : ℕ) : Type 0 where
  pub some : 0 < n
  pub within : n ≤ length day
  pub begins : Begins day name n
  pub own : part (payload_at day n) ≡ OfStock locate
  pub first : (m : ℕ) → 0 < m → m < n → ¬ Begins day name m

-- the name is that of no stock of the day
abbrev pub NamesNone : List (List ℕ) → StockName → Type 0
NamesNone day name = (n : ℕ) → 0 < n → n ≤ length day → ¬ Begins day name n
