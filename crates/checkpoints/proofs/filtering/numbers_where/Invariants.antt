use Rattle.checkpoints.specs.Filtering.{Computes}
use Rattle.checkpoints.proofs.Reading.{IsSifting}
use Rattle.checkpoints.proofs.filtering.numbers_where.Given as goal

abbrev pub invariant-loop-payload : goal.invariant-loop-payload
invariant-loop-payload g l =
    IsSifting (Computes (goal.F-post g l.keeps)) l.day.payloads l.payload-iterator l.number l.numbers.items
