use Rattle.std.proofs.Common.{arith, ◌∙◌}
use Rattle.top_cell.proofs.TriesAndChanges.{writing_now, put_now}
use Rattle.top_cell.proofs.writing.write.Goals as goal

pub loop-index-init : goal.loop-index-init
loop-index-init c =
    let b = c.begin_write.ensures in
    let t = writing_now _ _ _ c.requires.idle.0 b.turns.0 in
    (b.same, t.0, t.1, b.turns.1, t.2, t.3)

pub loop-index-preserved : goal.loop-index-preserved
loop-index-preserved c =
    let i = c.loop-index.invariant in
    let p = c.put_word.ensures in
    let t = put_now _ _ i.1 p.turns.0 in
    ((p.same.0 ∙ i.0.0, p.same.1 ∙ i.0.1), t.0, t.1 ∙ i.2, p.turns.1 ∙ i.3, omega (arith, t.2, i.4), t.3 ∙ i.5)
