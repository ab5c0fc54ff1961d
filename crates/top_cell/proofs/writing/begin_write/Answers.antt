use Rattle.std.proofs.Common.{◌<◌, arith, ap, subst, List, ℕ}
use Rattle.top_cell.specs.Rule.{Turns, number_in, number_of}
use Rattle.top_cell.specs.Kinds.{WriterBegun}
use Rattle.top_cell.proofs.WriterSteps.{writer_begins}
use Rattle.top_cell.proofs.writing.begin_write.Goals as goal

pub fetch_add-requires : goal.fetch_add-requires
fetch_add-requires g c =
    let s = c.requires.seat in
    let w = c.requires.words in
    let i = c.requires.idle in
    (s.0, omega (arith, s.1), rw c.requires.named (writer_begins _ _ _ _ _ c.args.words.now i.0 i.1 w.0 (subst (λ n. n < number_in c.args.words.now) (ap number_of i.0) w.1)))

pub returns : goal.returns
returns g c =
    let e = c.fetch_add.ensures in
    record { same = (e.0, e.1); turns = subst (λ (ws : List ℕ). Turns (WriterBegun ws) c.args.seat.now.me c.fetch_add.new.seat.me) c.requires.named e.2 }
