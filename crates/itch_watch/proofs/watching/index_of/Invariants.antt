use Rattle.std.proofs.Common.{◌≡◌, ◌<◌, ◌≤◌, ℕ, length, map, slice_index}
use Rattle.itch_watch.proofs.watching.index_of.Given as goal

abbrev pub invariant-loop-index : goal.invariant-loop-index
invariant-loop-index l =
    (own : ℕ) × (l.index ≤ own) × (own < length l.writers) × (slice_index (map (λ w. w.place.locate) l.writers) own ≡ l.locate)
