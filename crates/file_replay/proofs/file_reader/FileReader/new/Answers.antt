use Rattle.std.proofs.Common.{ap, arith}
use Rattle.file_replay.specs.declared.file_end.FileEnd.{FileEnd}
use Rattle.file_replay.proofs.file_reader.FileReader.new.Goals as goal

pub returns-clause-so_far : goal.returns-clause-so_far
returns-clause-so_far g c = λ start. record {
  read = c.new.ensures.read start;
  few = omega arith;
  marked_is = ap (λ (end : FileEnd). end.marked) c.new-2.ensures;
  tail_is = ap (λ (end : FileEnd). end.tail) c.new-2.ensures;
}
