use Rattle.std.proofs.Common.{◌≡◌, map}
use Rattle.stock_workers.proofs.running.waiting_workers.Given as goal

abbrev pub invariant-loop-worker : goal.invariant-loop-worker
invariant-loop-worker g l = record {
  numbers : map (λ w. w.worker) l.all.items ≡ map (λ p. p.0) l.yielded;
  writers : map (λ w. w.writers) l.all.items ≡ map (λ p. p.1) l.yielded;
}
