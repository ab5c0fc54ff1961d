use Rattle.std.proofs.Common.{◌++◌, ℕ, [], subst, arith}
use Rattle.day_replay.specs.Dealing.{IsDealt}
use Rattle.test_replay.proofs.replaying.go_on_over.Goals as goal

pub loop-segment-init : goal.loop-segment-init
loop-segment-init g c = c.requires

pub deal-requires : goal.deal-requires
deal-requires g c = record {
  dealt = (
    [],
    c.clear.ensures c.len-before.result (omega (arith, c.if-from.false, c.from.ensures, c.from-in-loop-segment-2.ensures)),
    omega (arith, c.if-from.false, c.from.ensures, c.from-in-loop-segment.ensures, c.from-in-loop-segment-2.ensures, c.len.ensures),
  );
}

pub go_on-requires : goal.go_on-requires
go_on-requires g c =
    let inv = c.loop-segment.invariant in
    let segment = c.segment-item.result.payloads in
    let none = c.clear.ensures c.len-before.result (omega (arith, c.if-from.false, c.from.ensures, c.from-in-loop-segment-2.ensures)) in
    let dealt = (c.in_ok-deal.ensures {u = tt}).dealt [] none in
    (search, (search, (search, (search, (inv.0, segment, inv.1, subst (λ (n : ℕ). IsDealt n segment c.deal.new.self) (c.len-before.ensures inv.0 inv.1) dealt)))))

pub loop-segment-preserved : goal.loop-segment-preserved
loop-segment-preserved g c =
    let inv = c.loop-segment.invariant in
    let segment = c.segment-item.result.payloads in
    let none = c.clear.ensures c.len-before.result (omega (arith, c.if-from.false, c.from.ensures, c.from-in-loop-segment-2.ensures)) in
    let dealt = (c.in_ok-deal.ensures {u = tt}).dealt [] none in (
      inv.0 ++ segment,
      c.in_ok-go_on.ensures {u = tt} inv.0 segment inv.1 (subst (λ (n : ℕ). IsDealt n segment c.deal.new.self) (c.len-before.ensures inv.0 inv.1) dealt),
    )
