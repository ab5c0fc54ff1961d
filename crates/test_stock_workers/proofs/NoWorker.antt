-- A number that is no worker's has no stocks.
use Rattle.std.proofs.Common.{◌≡◌, ℕ, ◌%◌, ◌<◌, ◌≤◌, List, [], eqb, arith}
use Rattle.std.proofs.lemmas.Bool.{ne_eqb}
use Rattle.std.proofs.lemmas.Nat.{mod_below}
use Rattle.day_core.specs.Owners.{locates_by}
use Rattle.day_core.proofs.FilteredRanges.{kept_none}

pub no_locates : (workers number : ℕ) (locates : List ℕ) → 0 < workers → workers ≤ number → locates_by workers number locates ≡ []
no_locates workers number locates some past =
    kept_none (λ l. eqb (l % workers) number) locates (λ l. ne_eqb _ _ (λ same. omega (arith, same, mod_below l workers some)))
