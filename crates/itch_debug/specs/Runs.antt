-- What a debugging session reads, writes and answers. All is of this project.
use Rattle.std.specs.Prelude.{◌≡◌, ◌≤◌, ◌<◌, ◌⊎◌, ℕ, ◌+◌, ◌^◌, Bool, false, IsTrue, List, [], ◌++◌, length, take, Option, IfSome}
use Rattle.std.specs.Io.KnownBytes.{Appends, Consumes}
use Rattle.std.specs.List.{All, slice_split}
use Rattle.engine_rules.specs.declared.fault.ProgFault.{ProgFault}
use Rattle.engine_rules.specs.declared.fault.ProgFault.TheVariants.{Memory, Read, Write}
use Rattle.debugger.specs.Sessions.{Session}
use Rattle.itch_debug.specs.Sessions.{answers, is_line_feed, replies, session_after, start}

-- the most bytes of commands that a session takes
abbrev pub most_command_bytes : ℕ
most_command_bytes = 2 ^ 30

-- These are the first lines of the commands, each of which a line feed has ended, and this is the rest,
-- whatever follows.
abbrev pub Leads : List (List ℕ) → List ℕ → List ℕ → Type 0
Leads lines rest commands =
    (more : List ℕ)
    → slice_split is_line_feed (commands ++ more) ≡ lines ++ slice_split is_line_feed (rest ++ more)

-- the text is a prefix of the answers to the commands, whatever follows
abbrev pub IsPrefix : List (List ℕ) → List ℕ → List ℕ → Type 0
IsPrefix day commands text =
    (more : List ℕ) → (rest : List ℕ) × (answers day (commands ++ more) ≡ text ++ rest)

-- The session stands where the commands that have come in bring it: each line that has ended was answered,
-- and nothing else was written. Of the line that has begun no more bytes are kept than show that it is too
-- long.
pub record Stands (day : List (List ℕ)) (before after : Option (List ℕ)) (commands : List ℕ)
    (session : Option Session) (kept : List ℕ) : Type 0 where
  pub lines : List (List ℕ)
  pub begun : List ℕ
  pub leads : Leads lines begun commands
  pub begun_is : All (λ byte. is_line_feed byte ≡ false) begun
  pub wrote : Appends before after (replies lines (start day))
  pub session_is : session ≡ session_after lines (start day)
  pub kept_is : kept ≡ take 1001 begun

-- Whole answers were written, those of the first lines of the commands, and nothing else.
pub record AnswersWhole (day : List (List ℕ)) (before after : Option (List ℕ)) (commands : List ℕ)
    : Type 0 where
  pub lines : List (List ℕ)
  pub rest : List ℕ
  pub leads : Leads lines rest commands
  pub wrote : Appends before after (replies lines (start day))
  pub prefix : IsPrefix day commands (replies lines (start day))

-- A prefix of the answers to the commands was written, and nothing else.
pub record AnswersPart (day : List (List ℕ)) (before after : Option (List ℕ)) (commands : List ℕ)
    : Type 0 where
  pub text : List ℕ
  pub wrote : Appends before after text
  pub prefix : IsPrefix day commands text

-- What was written where answering a line failed: a prefix of the answers where the writer failed, and of no
-- answer a part where memory was refused.
abbrev pub Halts : List (List ℕ) → Option (List ℕ) → Option (List ℕ) → List ℕ → ProgFault → Type 0
Halts day before after commands Memory = AnswersWhole day before after commands
Halts day before after commands Write = AnswersPart day before after commands
Halts day before after commands fault = ⊥

-- Whole answers were written, and nothing else: where the feed has failed, those of each line that came in
-- whole.
abbrev pub AnswersGiven : List (List ℕ) → Option (List ℕ) → Option (List ℕ) → List ℕ → Bool → Type 0
AnswersGiven day before after commands failed =
    (whole : AnswersWhole day before after commands)
    × (IsTrue failed → All (λ byte. is_line_feed byte ≡ false) whole.rest)

-- What was written where a fault came among the lines, or between them where the feed has failed or gave more
-- bytes than a session takes.
abbrev pub Interrupts : List (List ℕ) → Option (List ℕ) → Option (List ℕ) → List ℕ → Bool → ProgFault → Type 0
Interrupts day before after commands failed Read = AnswersGiven day before after commands failed
Interrupts day before after commands failed fault = Halts day before after commands fault

-- What was written of the answer to one line where a fault came: nothing where memory was refused, a prefix
-- where the writer failed.
abbrev pub Unfinished : ProgFault → Option (List ℕ) → Option (List ℕ) → List ℕ → Type 0
Unfinished Memory before after text = Appends before after []
Unfinished Write before after text = (count : ℕ) × Appends before after (take count text)
Unfinished fault before after text = ⊥

-- What was written of the answers to all commands where a fault came at their end: whole answers where memory
-- was refused, and a prefix of the answers where the writer failed.
abbrev pub EndsEarly : List (List ℕ) → Option (List ℕ) → Option (List ℕ) → List ℕ → ProgFault → Type 0
EndsEarly day before after commands Memory = AnswersWhole day before after commands
EndsEarly day before after commands Write =
    (text : List ℕ) × Appends before after text × ((rest : List ℕ) × (answers day commands ≡ text ++ rest))
EndsEarly day before after commands fault = ⊥

-- The reader gave these commands, the session stands where they bring it, and `left` more bytes may come.
pub record Serves (day : List (List ℕ)) (unread unread_after before after : Option (List ℕ))
    (session : Option Session) (kept : List ℕ) (left : ℕ) : Type 0 where
  pub commands : List ℕ
  pub gave : Consumes unread unread_after commands
  pub stands : Stands day before after commands session kept
  pub counted : length commands + left ≡ most_command_bytes

-- Read comes exactly where the feed has failed or more bytes came than a session takes.
abbrev pub Cause : ProgFault → Bool → ℕ → Type 0
Cause Read failed count = IsTrue failed ⊎ (most_command_bytes < count)
Cause fault failed count = (failed ≡ false) × (count ≤ most_command_bytes)

-- The reader gave these commands, and a fault came.
pub record Faults (day : List (List ℕ)) (unread unread_after before after : Option (List ℕ)) (failed : Bool)
    (fault : ProgFault) : Type 0 where
  pub commands : List ℕ
  pub gave : Consumes unread unread_after commands
  pub halts : Interrupts day before after commands failed fault
  pub cause : Cause fault failed (length commands)

-- Where these commands have come in, what is left of the input changes no answer.
abbrev pub ChangesNothing : List (List ℕ) → List ℕ → Option (List ℕ) → Type 0
ChangesNothing day commands left = IfSome left (λ more. answers day (commands ++ more) ≡ answers day commands)

-- The reader gave these commands, to its end or to one that ends the session, and the session stands where they
-- bring it.
pub record ServesAll (day : List (List ℕ)) (unread unread_after before after : Option (List ℕ))
    (session : Option Session) (kept : List ℕ) : Type 0 where
  pub commands : List ℕ
  pub gave : Consumes unread unread_after commands
  pub within : length commands ≤ most_command_bytes
  pub stands : Stands day before after commands session kept
  pub all : ChangesNothing day commands unread_after

-- The reader gave these commands, to its end or to one that ends the session, and their answers were written, and
-- nothing else.
pub record Answers (day : List (List ℕ)) (unread unread_after before after : Option (List ℕ)) : Type 0 where
  pub commands : List ℕ
  pub gave : Consumes unread unread_after commands
  pub within : length commands ≤ most_command_bytes
  pub wrote : Appends before after (answers day commands)
  pub all : ChangesNothing day commands unread_after

-- A fault came at the end of the commands.
pub record HaltsAtEnd (day : List (List ℕ)) (unread_after before after : Option (List ℕ)) (commands : List ℕ)
    (fault : ProgFault) : Type 0 where
  pub early : EndsEarly day before after commands fault
  pub all : ChangesNothing day commands unread_after

-- The reader gave these commands, and a fault came among their lines or at their end.
pub record Fails (day : List (List ℕ)) (unread unread_after before after : Option (List ℕ)) (failed : Bool)
    (fault : ProgFault) : Type 0 where
  pub commands : List ℕ
  pub gave : Consumes unread unread_after commands
  pub halts : Interrupts day before after commands failed fault
      ⊎ HaltsAtEnd day unread_after before after commands fault
  pub cause : Cause fault failed (length commands)
