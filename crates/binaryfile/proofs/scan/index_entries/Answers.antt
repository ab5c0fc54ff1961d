use Rattle.std.proofs.Common.{◌≡◌, ◌<◌, length, refl, arith}
use Rattle.binaryfile.specs.Index.{payloads_of}
use Rattle.binaryfile.proofs.ByteRanges.{bytes_are}
use Rattle.binaryfile.proofs.Offsets.{indexed_none, indexed_push, indexed_stay, steps, stops}
use Rattle.binaryfile.proofs.scan.index_entries.Goals as goal
use Rattle.binaryfile.proofs.scan.index_entries.Goals.{then-count-eq0+in_ok-push, else-count-eq0}

pub loop-payload-init : goal.loop-payload-init
loop-payload-init g c = record {
  place = refl;
  counted = omega arith;
  within = omega arith;
  fewer = omega arith;
  indexed = rw c.new-starts.ensures.items (indexed_none c.args.bytes.now);
}

pub loop-payload-preserved : goal.loop-payload-preserved
loop-payload-preserved g c =
    let first = c.in-Some.ensures in
    let i = c.loop-payload.invariant in
    let s = steps c.args.bytes.now c.loop-payload.end c.loop-payload.count c.in-Some.payload.now first.0 (bytes_are c.args.bytes.now c.type_inv.bytes) i.place first.1 in
    record {
      place = s.place;
      counted = omega (arith, s.more);
      within = s.within;
      fewer = omega arith;
      indexed = elim c.if-count-eq0.branch [
        | then-count-eq0+in_ok-push w ↦ rw (w.starts-is, w.in_ok-push.ensures.items) (indexed_push c.args.bytes.now c.loop-payload.starts.items c.loop-payload.count c.loop-payload.end w.if-count-eq0.true i.place i.indexed)
        | else-count-eq0 w ↦ rw w.starts-is (indexed_stay c.args.bytes.now c.loop-payload.starts.items c.loop-payload.count w.if-count-eq0.false i.indexed)
      ];
    }

pub returns-clause-count : goal.returns-clause-count
returns-clause-count g c = stops c.args.bytes.now c.loop-payload.end c.loop-payload.count (bytes_are c.args.bytes.now c.type_inv.bytes) c.loop-payload.invariant.place c.loop-payload.invariant.counted (c.in_default.ensures {u = tt})

pub returns-clause-index : goal.returns-clause-index
returns-clause-index g c = λ k below.
    let indexed = c.loop-payload.invariant.indexed in
    let all : c.loop-payload.count ≡ length (payloads_of c.args.bytes.now) =
    stops c.args.bytes.now c.loop-payload.end c.loop-payload.count (bytes_are c.args.bytes.now c.type_inv.bytes) c.loop-payload.invariant.place c.loop-payload.invariant.counted (c.in_default.ensures {u = tt})
    in
    let here : k < length c.loop-payload.starts.items = omega (arith, indexed.enough, all) in (here, indexed.found k here)
