use Rattle.std.proofs.Common.{refl}
use Rattle.itch_why.proofs.laws.fault_is_the_outcomes.Goals as goal

pub returns : goal.returns
returns c = λ day n fault before refused. rw refused refl
