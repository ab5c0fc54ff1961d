-- The summary of a day. It is of this project.
use Rattle.std.specs.Prelude.{ℕ, List, ◌++◌}
use Rattle.std.specs.List.{flat_map}
use Rattle.itch_table.specs.Shows.{locates_of_day}
use Rattle.stock_machine.specs.StockRows.{StockMachine}
use Rattle.day_core.specs.Replaying.{last_machine}
use Rattle.day_replay.specs.declared.refusals.RefusedMessage.{RefusedMessage}
use Rattle.day_replay.specs.Summaries.{count_of_stock, stock_refused_count}
use Rattle.itch_summary.specs.Lines.{field_names, summary_line}

-- the line of a stock, by its machine and by the refused messages of the day
abbrev pub machine_line : List RefusedMessage → StockMachine → List ℕ
machine_line refused machine = summary_line machine (count_of_stock refused machine.locate)

-- the line of a stock of a day: its machine after the whole day, and how many of its messages were refused
abbrev pub line_of_stock : List (List ℕ) → ℕ → List ℕ
line_of_stock day locate = summary_line (last_machine day locate) (stock_refused_count day locate)

-- the summary of a day: the names of the fields, and a line for each stock that has messages, by rising locate code
unfoldable pub summary_of_day : List (List ℕ) → List ℕ
summary_of_day day = field_names ++ flat_map (line_of_stock day) (locates_of_day day)
