use Rattle.std.proofs.Common.{take}
use Rattle.top_cell.specs.Boards.{AreNew}
use Rattle.top_cell.specs.Rule.{day_stock}
use Rattle.top_cell.proofs.board.Board.new.Given as goal

abbrev pub invariant-loop-locate : goal.invariant-loop-locate
invariant-loop-locate g l = AreNew l.day.payloads (take l.locate-index l.locate-items) l.cells.items l.writers.items

abbrev pub ghosts-open : goal.ghosts-open
ghosts-open g l = record { stock = day_stock l.day.now.payloads l.locate }
