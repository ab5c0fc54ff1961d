use Rattle.std.proofs.Common.{◌≡◌, ℕ, length, map}
use Rattle.checkpoints.specs.Copies.{listed}
use Rattle.checkpoints.proofs.index.reach.Given as goal

abbrev pub invariant-loop : goal.invariant-loop
invariant-loop g l = record {
  long : length l.lists.items ≡ l.counter;
  same : (code : ℕ) → listed (map (λ list. list.items) l.lists.items) code ≡ listed (map (λ list. list.items) l.fn.lists.items) code;
}
