use Rattle.std.proofs.Common.{arith}
use Rattle.binaryfile.proofs.ByteRanges.{bytes_are}
use Rattle.binaryfile.proofs.Offsets.{steps, stops}
use Rattle.binaryfile.proofs.scan.entry_count.Goals as goal

pub loop-payload-preserved : goal.loop-payload-preserved
loop-payload-preserved c =
    let first = c.in-Some.ensures in
    let s = steps c.args.bytes.now c.loop-payload.end c.loop-payload.count c.in-Some.payload.now first.0 (bytes_are c.args.bytes.now c.type_inv.bytes) c.loop-payload.invariant.place first.1 in
    record { place = s.place; counted = omega (arith, s.more); within = s.within; fewer = omega arith }

pub returns : goal.returns
returns c = stops c.args.bytes.now c.loop-payload.end c.loop-payload.count (bytes_are c.args.bytes.now c.type_inv.bytes) c.loop-payload.invariant.place c.loop-payload.invariant.counted (c.in_default.ensures {u = tt})
