use Rattle.std.proofs.Common.{◌≡◌, ap, ◌∙◌, arith}
use Rattle.binaryfile.specs.Index.{offset, payloads_of}
use Rattle.binaryfile.proofs.ByteRanges.{bytes_are}
use Rattle.binaryfile.proofs.Offsets.{first_is_found, steps, offset_within}
use Rattle.binaryfile.proofs.scan.place_from.Goals as goal

pub loop-init : goal.loop-init
loop-init c = (c.requires.place, rw c.requires.place (offset_within c.args.bytes.now c.args.from (bytes_are c.args.bytes.now c.type_inv.bytes)))

pub unwrap-payload-requires : goal.unwrap-payload-requires
unwrap-payload-requires c =
    first_is_found c.args.bytes.now c.loop.at c.loop.counter (bytes_are c.args.bytes.now c.type_inv.bytes) c.loop.invariant.0 (omega arith) _ _ c.first_payload.ensures

pub loop-preserved : goal.loop-preserved
loop-preserved c =
    let first = rw c.unwrap-payload.ensures at c.first_payload.ensures in
    let s = steps c.args.bytes.now c.loop.at c.loop.counter c.unwrap-payload.result.now first.0 (bytes_are c.args.bytes.now c.type_inv.bytes) c.loop.invariant.0 first.1 in
    (s.place, s.within)

pub returns-clause-place : goal.returns-clause-place
returns-clause-place c =
    let here : c.loop.counter ≡ c.args.number = omega arith in
    c.loop.invariant.0 ∙ ap (offset (payloads_of c.args.bytes.now)) here
