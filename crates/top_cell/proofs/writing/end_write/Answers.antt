use Rattle.std.proofs.Common.{arith}
use Rattle.top_cell.proofs.WriterSteps.{writer_ends}
use Rattle.top_cell.proofs.writing.end_write.Goals as goal

pub fetch_add-requires : goal.fetch_add-requires
fetch_add-requires c =
    let s = c.requires.seat in
    let w = c.requires.writing in
    (s.0, omega (arith, s.1), writer_ends _ _ _ _ _ w.0 w.2 w.1)
