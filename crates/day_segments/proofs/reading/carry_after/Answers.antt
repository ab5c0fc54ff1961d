use Rattle.std.proofs.Common.{◌≤◌, ◌^◌, List, ℕ, length, sym, subst, rules}
use Rattle.day_segments.proofs.Carried.{carry_short}
use Rattle.day_segments.proofs.reading.carry_after.Goals as goal

pub returns-clause-long : goal.returns-clause-long
returns-clause-long g c =
    let short = carry_short _ _ c.bytes-bytes.ensures.are c.bytes-bytes.ensures.split (c.if-marked.ensures {u = tt}) in
    let tail = subst (λ (bytes : List ℕ). length bytes ≤ 2 ^ 16) (sym c.tail.ensures) short in
    search (rules, tail)
