use Rattle.checkpoints.proofs.track.Track.along.Goals as goal

pub invariant_of-result : goal.invariant_of-result
invariant_of-result g c = record {
  some = c.requires.some;
  numbers_are = c.requires.numbers;
  copies_are = c.in_ok-copies.ensures;
}
