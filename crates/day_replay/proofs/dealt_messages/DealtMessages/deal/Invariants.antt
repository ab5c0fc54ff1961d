use Rattle.std.proofs.Common.{◌≡◌, ◌++◌, ℕ, List}
use Rattle.day_replay.specs.Dealing.{IsDealt}
use Rattle.day_replay.proofs.dealt_messages.DealtMessages.deal.Given as goal

abbrev pub invariant-loop-payload : goal.invariant-loop-payload
invariant-loop-payload g l = record {
  done : List (List ℕ);
  so_far : l.segment.payloads ≡ done ++ l.payload-iterator;
  dealt : (payloads : List (List ℕ)) → IsDealt l.before payloads l.fn.self → IsDealt l.before (payloads ++ done) l.self;
}
