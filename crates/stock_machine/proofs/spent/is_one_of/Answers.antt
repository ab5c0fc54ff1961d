use Rattle.std.proofs.Common.{◌∙◌, not, ap, sym}
use Rattle.stock_machine.proofs.SpentLists.{above_all, found}
use Rattle.stock_machine.proofs.spent.is_one_of.Goals as goal

pub returns-then-not-is_above_all : goal.returns-then-not-is_above_all
returns-then-not-is_above_all c =
    c.is_ok.ensures.value ∙ found c.args.distance c.args.distances.now c.binary_search.result c.requires c.binary_search.ensures.position

pub returns-else-not-is_above_all : goal.returns-else-not-is_above_all
returns-else-not-is_above_all c =
    ap not c.if-not-is_above_all.false
    ∙ sym (above_all c.args.distance c.args.distances.now (c.is_above_all.ensures c.if-not-is_above_all.false))
