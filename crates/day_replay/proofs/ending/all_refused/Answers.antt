use Rattle.std.proofs.Common.{rules}
use Rattle.std.proofs.lemmas.List.Sorted.{IsPermutation-trans, IsNonDecreasingBy-from_sort_by_key}
use Rattle.day_replay.proofs.RefusedMessages.{in_order_are}
use Rattle.day_replay.proofs.ending.all_refused.Goals as goal

pub returns : goal.returns
returns g c = λ day has none.
    in_order_are day c.sort_unstable_by_key.new.self.items
    (IsPermutation-trans _ _ _ (c.in_ok-all.ensures {u = tt} day has none) c.sort_unstable_by_key.ensures.permutation)
    (IsNonDecreasingBy-from_sort_by_key (λ p. p.message) c.sort_unstable_by_key.new.self.items c.sort_unstable_by_key.ensures.sorted (λ a r f called. search rules))
