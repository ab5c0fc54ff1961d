-- A session: its lines, one after another, and their answers. All is of this project.
use Rattle.std.specs.Prelude.{ℕ, ◌==◌, Bool, List, [], ◌∷◌, ◌++◌, Option, Some, None}
use Rattle.std.specs.List.{slice_split}
use Rattle.itch_text.specs.Characters.{line_feed}
use Rattle.debugger.specs.Sessions.{Session, new_session}
use Rattle.itch_debug.specs.Answering.{Reply, reply_or}
use Rattle.itch_debug.specs.Commands.{command_of}

-- the answer of a line; nothing is answered where the session is over
abbrev pub reply_of : Option Session → List ℕ → Reply
reply_of None line = record { text = []; next = None }
reply_of (Some s) line = reply_or s (command_of line)

-- what is written for these lines, one after another
abbrev pub replies : List (List ℕ) → Option Session → List ℕ
replies [] session = []
replies (line ∷ lines) session = (reply_of session line).text ++ replies lines (reply_of session line).next

-- the session after these lines, none where it is over
abbrev pub session_after : List (List ℕ) → Option Session → Option Session
session_after [] session = session
session_after (line ∷ lines) session = session_after lines (reply_of session line).next

abbrev pub is_line_feed : ℕ → Bool
is_line_feed byte = byte == line_feed

-- a session of a day that begins: of no stock two copies lie fewer than 1,000 of its messages apart
abbrev pub start : List (List ℕ) → Option Session
start day = Some (new_session day 1000)

-- What is written for a text of commands on a day, line by line. A blank line answers nothing, so neither does what
-- follows a line feed that ends the text.
unfoldable pub answers : List (List ℕ) → List ℕ → List ℕ
answers day commands = replies (slice_split is_line_feed commands) (start day)
