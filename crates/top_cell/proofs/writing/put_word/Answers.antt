use Rattle.std.proofs.Common.{arith, ap, ◌∙◌, ◌+◌}
use Rattle.std.specs.Prelude.{slice_index}
use Rattle.top_cell.specs.Rule.{change_of}
use Rattle.top_cell.proofs.WriterSteps.{writer_puts}
use Rattle.top_cell.proofs.writing.put_word.Goals as goal

pub store-requires : goal.store-requires
store-requires c =
    let s = c.requires.seat in
    let w = c.requires.writing in
    (s.0, omega (arith, w.1, s.1), writer_puts _ _ _ _ _ _ _ w.0 (omega (arith, w.1, w.2)) (c.requires.word ∙ ap (λ k. slice_index (change_of c.args.seat.now.me.0).new k) w.2) (ap (λ k. k + 1) w.2))
