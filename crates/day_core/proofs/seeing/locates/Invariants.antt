use Rattle.std.proofs.Common.{◌≡◌, false, filter, get_or}
use Rattle.std.specs.List.{range_with_len}
use Rattle.day_core.proofs.SeenStocks.{AreSeen}
use Rattle.day_core.proofs.seeing.locates.Given as goal

abbrev pub invariant-loop-before : goal.invariant-loop-before
invariant-loop-before g l = AreSeen l.day.payloads l.before l.seen.items

abbrev pub invariant-loop-locate : goal.invariant-loop-locate
invariant-loop-locate g l = l.locates.items ≡ filter (λ locate. get_or l.is_seen-items locate false) (range_with_len 0 l.locate)
