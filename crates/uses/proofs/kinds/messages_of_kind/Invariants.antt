use Rattle.std.proofs.Common.{◌≡◌, ◌+◌, count_by}
use Rattle.uses.specs.Kinds.{is_message_of}
use Rattle.uses.proofs.kinds.messages_of_kind.Given as goal

abbrev pub invariant-loop-payload : goal.invariant-loop-payload
invariant-loop-payload g l = l.count + count_by (is_message_of l.kind) l.payload-iterator ≡ count_by (is_message_of l.kind) l.day.payloads
