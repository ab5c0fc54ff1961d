-- The commands of the program, by what they ask for. All is of this project.
use Rattle.std.specs.Prelude.{ℕ, List, codes, Option, Some, None}
use Rattle.itch_arguments.specs.declared.Task.{Task}
use Rattle.itch_arguments.specs.declared.Task.TheVariants.{Replay, Summarize, Disassemble, DisassembleBetween, Stocks, Tops, Show, Why, Order, Trades, Trace, Watch, Assemble, Debug, ReplayDigits}

-- the command that asks for a task; none where a program without one is asked for it
abbrev pub command_of : Task → Option (List ℕ)
command_of (Replay file workers progress) = Some (codes "replay")
command_of (Summarize file workers) = Some (codes "summary")
command_of (Disassemble file) = Some (codes "dis")
command_of (DisassembleBetween file first last) = Some (codes "dis")
command_of (Stocks file) = Some (codes "stocks")
command_of (Tops file stock every) = Some (codes "tops")
command_of (Show file stock after at) = Some (codes "show")
command_of (Why file number) = Some (codes "why")
command_of (Order file stock reference) = Some (codes "order")
command_of (Trades file stock) = Some (codes "trades")
command_of (Trace file stock depth first last) = Some (codes "trace")
command_of (Watch file stock workers) = Some (codes "watch")
command_of (Assemble text out) = Some (codes "asm")
command_of (Debug file) = Some (codes "debug")
command_of ReplayDigits = None
