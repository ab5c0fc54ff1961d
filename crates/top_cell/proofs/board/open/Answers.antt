use Rattle.std.proofs.Common.{arith, refl}
use Rattle.top_cell.specs.Rule.{new_cell}
use Rattle.top_cell.proofs.OpenSplitJoin.{opens}
use Rattle.top_cell.proofs.board.open.Goals as goal

pub of_words-requires : goal.of_words-requires
of_words-requires g c = new_cell refl refl

pub load-requires : goal.load-requires
load-requires g c = let e = c.in_ok-table.ensures in (e.2, omega (arith, e.0), opens _ _ _ _ e.4)
