use Rattle.std.proofs.Common.{◌≡◌, length}
use Rattle.text_fields.specs.Quoted.{unpadded}
use Rattle.text_fields.proofs.quoting.unpadded.Given as goal

abbrev pub invariant-loop-last : goal.invariant-loop-last
invariant-loop-last l = unpadded l.rest ≡ unpadded l.field

abbrev pub decreases-loop-last : goal.decreases-loop-last
decreases-loop-last l = length l.rest
