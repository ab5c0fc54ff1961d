use Rattle.std.proofs.Common.{arith, ap, ◌∙◌}
use Rattle.std.specs.Prelude.{is_some}
use Rattle.day_core.proofs.MergedDay.{placed, empty_from}
use Rattle.day_core.proofs.merging.place.Goals as goal

pub returns-clause-placed : goal.returns-clause-placed
returns-clause-placed g c = λ before holds.
    placed before _ c.args.piece holds (omega arith) (omega arith) (empty_from c.args.slots.now.items _ _ (omega arith) (c.if-is_some.ensures ∙ ap is_some c.index.ensures))
