-- Which lines are which commands. The commands are of this project.
use Rattle.std.specs.Prelude.{◌≡◌, ℕ, ◌^◌, nat_lt, if◌then◌else◌, List, [], ◌∷◌, length, codes, Contains, Option, Some, None, option_map}
use Rattle.std.specs.Str.{bytes_eq}
use Rattle.itch_table.specs.declared.order.Side.{Side}
use Rattle.itch_table.specs.declared.order.Side.TheVariants.{Buy, Sell}
use Rattle.itch_text.specs.Characters.{quote_mark}
use Rattle.itch_text.specs.Parsing.{number_in}
use Rattle.itch_text.specs.Words.{words}
use Rattle.debugger.specs.declared.breakpoint.Break.{Break}
use Rattle.debugger.specs.declared.breakpoint.Break.TheVariants.{Price, Reference, Time}
use Rattle.itch_debug.specs.declared.command.Command.{Command}
use Rattle.itch_debug.specs.declared.command.Command.TheVariants.{Blank, Goto, Step, Back, Onward, Rearward, AddBreak, ListBreaks, RemoveBreak, Event, Show, Quit}

-- ---- numbers and sides

-- a number that is below a limit
abbrev pub below : ℕ → Option ℕ → Option ℕ
below limit None = None
below limit (Some number) = if nat_lt number limit then Some number else None

-- the number that a word writes in one to twenty decimal digits, where it is below a limit
abbrev pub number_below : ℕ → List ℕ → Option ℕ
number_below limit word = below limit (number_in word)

-- the side that a word names
abbrev pub side_of : List ℕ → Option Side
side_of word =
    if bytes_eq word (codes "B") then Some Buy else
    if bytes_eq word (codes "S") then Some Sell else None

-- ---- breakpoints

abbrev pub price_at : Option ℕ → Option Side → Option ℕ → Option Break
price_at (Some locate) (Some side) (Some price) = Some (Price locate side price)
price_at (Some locate) (Some side) None = None
price_at (Some locate) None price = None
price_at None side price = None

-- a level, by the words of its locate code, its side and its price
abbrev pub price_break : List (List ℕ) → Option Break
price_break (locate ∷ side ∷ price ∷ []) =
    price_at (number_below (2 ^ 16) locate) (side_of side) (number_below (2 ^ 32) price)
price_break other = None

abbrev pub reference_at : Option ℕ → Option ℕ → Option Break
reference_at (Some locate) (Some reference) = Some (Reference locate reference)
reference_at (Some locate) None = None
reference_at None reference = None

-- an order, by the words of its locate code and its reference
abbrev pub reference_break : List (List ℕ) → Option Break
reference_break (locate ∷ reference ∷ []) =
    reference_at (number_below (2 ^ 16) locate) (number_below (2 ^ 64) reference)
reference_break other = None

-- a time, by its word
abbrev pub time_break : List (List ℕ) → Option Break
time_break (time ∷ []) = option_map Time (number_below (2 ^ 48) time)
time_break other = None

-- the breakpoint that the words after `break` name: `price L D P`, `reference L R` or `time T`
abbrev pub break_of : List (List ℕ) → Option Break
break_of [] = None
break_of (kind ∷ words) =
    if bytes_eq kind (codes "price") then price_break words else
    if bytes_eq kind (codes "reference") then reference_break words else
    if bytes_eq kind (codes "time") then time_break words else None

-- ---- commands

-- the command that is one word alone
abbrev pub bare_command : List ℕ → Option Command
bare_command word =
    if bytes_eq word (codes "step") then Some Step else
    if bytes_eq word (codes "back") then Some Back else
    if bytes_eq word (codes "onward") then Some Onward else
    if bytes_eq word (codes "rearward") then Some Rearward else
    if bytes_eq word (codes "breaks") then Some ListBreaks else
    if bytes_eq word (codes "event") then Some Event else
    if bytes_eq word (codes "quit") then Some Quit else None

-- the command that is a word and a number
abbrev pub numbered_command : List ℕ → List ℕ → Option Command
numbered_command word number =
    if bytes_eq word (codes "goto") then option_map Goto (number_below (2 ^ 64) number) else
    if bytes_eq word (codes "remove") then option_map RemoveBreak (number_below (2 ^ 64) number) else
    if bytes_eq word (codes "show") then option_map Show (number_below (2 ^ 16) number) else None

-- the command of a word and those after it, where the word isn't `break`
abbrev pub other_command : List ℕ → List (List ℕ) → Option Command
other_command word [] = bare_command word
other_command word (number ∷ []) = numbered_command word number
other_command word (number ∷ more ∷ words) = None

-- the command of a line's words, none where they are no command
abbrev pub command_of_words : List (List ℕ) → Option Command
command_of_words [] = Some Blank
command_of_words (word ∷ words) =
    if bytes_eq word (codes "break") then option_map AddBreak (break_of words) else other_command word words

-- the most bytes of a line
abbrev pub longest_line : ℕ
longest_line = 1000

-- the command of a line; a line that is too long is none, whatever stands in it
unfoldable pub command_of : List ℕ → Option Command
command_of line = if nat_lt longest_line (length line) then None else command_of_words (words line)

-- no line with a quote in it is a command
abbrev pub QuotesAreInNone : Type 0
QuotesAreInNone = (line : List ℕ) → Contains line quote_mark → command_of line ≡ None
