use Rattle.std.proofs.Common.{[], ◌∙◌}
use Rattle.std.proofs.lemmas.List.{get_or_default}
use Rattle.binaryfile.specs.Index.{payloads_of}
use Rattle.binaryfile.proofs.ByteRanges.{bytes_are}
use Rattle.binaryfile.proofs.Offsets.{first_is_found, steps}
use Rattle.binaryfile.proofs.scan.nth_payload.Goals as goal

pub unwrap-requires : goal.unwrap-requires
unwrap-requires c =
    let bytes = c.args.bytes.now in
    first_is_found bytes c.entry_place-at.result c.args.number (bytes_are bytes c.type_inv.bytes) c.entry_place-at.ensures.place c.requires.number _ _ c.first_payload.ensures

pub returns : goal.returns
returns c =
    let bytes = c.args.bytes.now in
    let first = rw c.unwrap.ensures at c.first_payload.ensures in
    let s = steps bytes c.entry_place-at.result c.args.number c.unwrap.result.now first.0 (bytes_are bytes c.type_inv.bytes) c.entry_place-at.ensures.place first.1 in
    s.is ∙ get_or_default (payloads_of bytes) c.args.number [] c.unwrap.result.now s.more
