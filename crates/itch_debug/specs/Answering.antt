-- The answer of each command. The lines are of this project; each ends with a line feed, and its numbers are decimal.
use Rattle.std.specs.Prelude.{◌≡◌, ◌⊎◌, ℕ, ◌+◌, ◌-◌, ◌≤◌, ◌==◌, ◌&&◌, nat_le, Bool, false, if◌then◌else◌, zero, suc, List, [], ◌∷◌, ◌++◌, length, position, codes, decimal, slice_get, Option, Some, None, Result, OnErr, OnOk}
use Rattle.std.specs.declared.vec.Vec.{Vec}
use Rattle.itch_table.specs.After.{after}
use Rattle.itch_table.specs.Levels.{same_side}
use Rattle.text_fields.specs.Quoted.{quoted_byte}
use Rattle.stock_text.specs.Orders.{side_text}
use Rattle.stock_text.specs.Sessions.{position_text, shown_text, stock_text}
use Rattle.debugger.specs.Sessions.{Session, moved_to, next_stop, previous_stop, with_break, without_break}
use Rattle.debugger.specs.Stops.{hit}
use Rattle.debugger.specs.declared.breakpoint.Break.{Break}
use Rattle.debugger.specs.declared.breakpoint.Break.TheVariants.{Price, Reference, Time}
use Rattle.debugger.specs.declared.debugging.DebugFault.{DebugFault}
use Rattle.debugger.specs.declared.debugging.DebugFault.TheVariants.{Memory, PastEnd, BeforeStart}
use Rattle.itch_debug.specs.declared.command.Command.{Command}
use Rattle.itch_debug.specs.declared.command.Command.TheVariants.{Blank, Goto, Step, Back, Onward, Rearward, AddBreak, ListBreaks, RemoveBreak, Event, Show, Quit}

-- ---- lines

-- the number of the breakpoint at an index, which counts from 1
abbrev pub hit_text : Option ℕ → List ℕ
hit_text None = codes " no break"
hit_text (Some index) = codes " break " ++ decimal (index + 1)

-- the line of a breakpoint's number
abbrev pub break_line : ℕ → List ℕ
break_line number = codes "break " ++ decimal number ++ codes "\n"

-- a breakpoint, as the command that adds it has it after `break`
abbrev pub break_text : Break → List ℕ
break_text (Price locate side price) =
    codes "price " ++ decimal locate ++ codes " " ++ side_text side ++ codes " " ++ decimal price
break_text (Reference locate reference) =
    codes "reference " ++ decimal locate ++ codes " " ++ decimal reference
break_text (Time time) = codes "time " ++ decimal time

-- a breakpoint with its number
abbrev pub numbered_break : ℕ → Break → List ℕ
numbered_break number b = decimal number ++ codes " " ++ break_text b ++ codes "\n"

-- the lines of these breakpoints, numbered from this number on
abbrev pub break_lines : ℕ → List Break → List ℕ
break_lines number [] = []
break_lines number (b ∷ bs) = numbered_break number b ++ break_lines (number + 1) bs

-- the lines of all breakpoints
abbrev pub breaks_text : List Break → List ℕ
breaks_text [] = codes "no breaks\n"
breaks_text (b ∷ bs) = break_lines 1 (b ∷ bs)

-- the line of the last event
abbrev pub event_line : Option ℕ → List ℕ
event_line event = codes "event " ++ quoted_byte event ++ codes "\n"

-- ---- breakpoints

-- whether two breakpoints are one
abbrev pub same_break : Break → Break → Bool
same_break (Price locate side price) (Price locate' side' price') =
    (locate == locate') && (same_side side side' && (price == price'))
same_break (Reference locate reference) (Reference locate' reference') =
    (locate == locate') && (reference == reference')
same_break (Time time) (Time time') = time == time'
same_break one other = false

-- the index of a breakpoint in a list, counted from 0, where it is there
abbrev pub index_of : List Break → Break → Option ℕ
index_of breaks b = position (same_break b) breaks

-- ---- answers

-- why a move is refused; where memory was, nothing is written
abbrev pub refusal_text : DebugFault → List ℕ
refusal_text Memory = []
refusal_text PastEnd = codes "? past end\n"
refusal_text BeforeStart = codes "? before start\n"

-- What is written for a command, and the session after it, none where it is over
pub record Reply : Type 0 where
  pub text : List ℕ
  pub next : Option Session

-- the text follows what was there, and this session is the one after the command
abbrev pub Replies : {A T E : Type 0} → Vec ℕ A → Vec ℕ A → Reply → Option Session → Result T E → Type 0
Replies old new reply next result = OnOk result ((new.items ≡ old.items ++ reply.text) × (reply.next ≡ next))

-- where memory was refused, the session is as it was or the one after the command
abbrev pub IsBeforeOrAfter : {T E : Type 0} → Session → Reply → Session → Result T E → Type 0
IsBeforeOrAfter old reply new result = OnErr result ((new ≡ old) ⊎ (reply.next ≡ Some new))

-- a text alone
abbrev pub says : Session → List ℕ → Reply
says s text = record { text = text; next = Some s }

abbrev pub past_end : Session → Reply
past_end s = says s (refusal_text PastEnd)

abbrev pub before_start : Session → Reply
before_start s = says s (refusal_text BeforeStart)

-- the line of a session's position
abbrev pub stands : Session → Reply
stands s = record { text = position_text s.day s.position ++ codes "\n"; next = Some s }

-- a move to a position
abbrev pub moves : Session → ℕ → Reply
moves s n = stands (moved_to s n)

-- the line of a session's position, which a search came to, with the index of the breakpoint that stops there
abbrev pub stop_text : Session → Option ℕ → List ℕ
stop_text s index = position_text s.day s.position ++ hit_text index ++ codes "\n"

-- a move to where a search came to
abbrev pub finds : Session → ℕ → Option ℕ → Reply
finds s n index = record { text = stop_text (moved_to s n) index; next = Some (moved_to s n) }

abbrev pub goto_reply : Session → ℕ → Reply
goto_reply s n = if nat_le n (length s.day) then moves s n else past_end s

abbrev pub step_reply : Session → Reply
step_reply s = if s.position == length s.day then past_end s else moves s (s.position + 1)

abbrev pub back_reply : Session → Reply
back_reply s = if s.position == 0 then before_start s else moves s (s.position - 1)

-- the index of the first breakpoint that stops at a message; at 0 none does
abbrev pub hit_at : Session → ℕ → Option ℕ
hit_at s zero = None
hit_at s (suc n) = hit s.breaks s.day (suc n)

abbrev pub onward_reply : Session → Reply
onward_reply s =
    if s.position == length s.day then past_end s else finds s (next_stop s) (hit_at s (next_stop s))

abbrev pub rearward_reply : Session → Reply
rearward_reply s =
    if s.position == 0 then before_start s else finds s (previous_stop s) (hit_at s (previous_stop s))

-- a breakpoint that is there at an index keeps it, another one goes last
abbrev pub added_at : Session → Break → Option ℕ → Reply
added_at s b (Some index) = says s (break_line (index + 1))
added_at s b None = record { text = break_line (length s.breaks + 1); next = Some (with_break s b) }

abbrev pub add_reply : Session → Break → Reply
add_reply s b = added_at s b (index_of s.breaks b)

abbrev pub removed_at : Session → ℕ → Option Break → Reply
removed_at s index None = says s (codes "? no such break\n")
removed_at s index (Some b) = record { text = codes "removed\n"; next = Some (without_break s index) }

-- the breakpoint of a number, which counts from 1
abbrev pub remove_reply : Session → ℕ → Reply
remove_reply s zero = says s (codes "? no such break\n")
remove_reply s (suc index) = removed_at s index (slice_get s.breaks index)

-- the answer of a command
abbrev pub reply_to : Session → Command → Reply
reply_to s Blank = says s []
reply_to s (Goto n) = goto_reply s n
reply_to s Step = step_reply s
reply_to s Back = back_reply s
reply_to s Onward = onward_reply s
reply_to s Rearward = rearward_reply s
reply_to s (AddBreak b) = add_reply s b
reply_to s ListBreaks = says s (breaks_text s.breaks)
reply_to s (RemoveBreak number) = remove_reply s number
reply_to s Event = says s (event_line (after s.day s.position).event)
reply_to s (Show locate) = says s (stock_text (after s.day s.position) locate)
reply_to s Quit = record { text = []; next = None }

-- the answer of a line, which may be no command
abbrev pub reply_or : Session → Option Command → Reply
reply_or s (Some command) = reply_to s command
reply_or s None = says s (codes "? command\n")

-- ---- a law

-- what stands of a position and a stock is what a session answers, at any position of its own, that goes there and shows the
-- stock
abbrev pub ShownIsAnswered : Type 0
ShownIsAnswered =
    (s : Session) (n locate : ℕ) → n ≤ length s.day
    → ((reply_to s (Goto n)).next ≡ Some (moved_to s n))
    × ((reply_to s (Goto n)).text ++ (reply_to (moved_to s n) (Show locate)).text ≡ shown_text s.day n locate)
