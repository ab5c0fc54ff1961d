use Rattle.std.proofs.Common.{map}
use Rattle.checkpoints.proofs.Indexing.{IsIndexing}
use Rattle.checkpoints.proofs.index.lists_of.Given as goal

abbrev pub invariant-loop-payload : goal.invariant-loop-payload
invariant-loop-payload g l = IsIndexing l.day.payloads l.payload-iterator l.number (map (λ list. list.items) l.lists.items)
