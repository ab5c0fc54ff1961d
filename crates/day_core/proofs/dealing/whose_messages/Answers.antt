use Rattle.std.proofs.Common.{◌≡◌, ◌-◌, ◌<◌, ◌^◌, ℕ, length, ap, ◌∙◌, arith}
use Rattle.std.specs.List.{range_with_len}
use Rattle.rayon.specs.Numbers.{nat_range}
use Rattle.rayon.proofs.ListFacts.{IfOk-then}
use Rattle.rayon.proofs.ToStd.{nat_range-All}
use Rattle.day_core.proofs.DealtDay.{whose_from}
use Rattle.day_core.proofs.dealing.whose_messages.Goals as goal

pub collect-requires-clause-ready : goal.collect-requires-clause-ready
collect-requires-clause-ready g c κs within =
    let ends = c.into_par_iter.ensures in
    let day = c.args.day.now.payloads in
    let few : length day < 2 ^ 32 = omega (arith, c.len.ensures, c.len.type_inv) in
    let inside = nat_range-All (λ i. i < length day) 0 c.len.result (λ i low high. omega (arith, high, c.len.ensures)) in
    rw (c.map.ensures.base, c.map.ensures.f, c.with_min_len.ensures.base, ends.0, ends.1) (λ k d lt. ((inside k d lt, few), λ y p. tt))

pub returns : goal.returns
returns g c =
    let ends = c.into_par_iter.ensures in
    let day = c.args.day.now.payloads in
    IfOk-then c.collect.result _ _ c.collect.ensures (λ v h.
    let mapped = rw c.map.ensures.base at h.1 in
    let called = rw c.map.ensures.f at mapped in
    let chain = rw c.with_min_len.ensures.base at called in
    let places = chain.1 ∙ (λ i. nat_range (ends.0 i) (ends.1 i)) ∙ ap (λ (k : ℕ). range_with_len 0 (k - 0)) c.len.ensures ∙ ap (range_with_len 0) (let all : length day - 0 ≡ length day = omega arith in all) in
    whose_from day v.items h.0 chain.0 chain.2 places h.2)
