use Rattle.std.proofs.Common.{◌≡◌, ◌-◌, length, get_or, ap, ◌∙◌, arith}
use Rattle.binaryfile.specs.Entries.{Contents}
use Rattle.binaryfile.specs.Scanned.{contents_of}
use Rattle.binaryfile.proofs.Offsets.{same_index}
use Rattle.binaryfile.proofs.day.Day.payload.Goals as goal

pub nth_payload-requires-clause-index : goal.nth_payload-requires-clause-index
nth_payload-requires-clause-index g c = same_index _ _ _ _ c.as_slice.ensures.value c.as_slice-2.ensures.value c.self.invariant.index

pub nth_payload-requires-clause-number : goal.nth_payload-requires-clause-number
nth_payload-requires-clause-number g c =
    let seen : contents_of c.as_slice.result.now ≡ c.args.self.now = ap contents_of c.as_slice.ensures.value ∙ c.self.view_is in
    omega (arith, ap (λ (x : Contents). length x.payloads) seen)

pub returns : goal.returns
returns g c =
    let seen : contents_of c.as_slice.result.now ≡ c.args.self.now = ap contents_of c.as_slice.ensures.value ∙ c.self.view_is in
    c.nth_payload.ensures ∙ ap (λ (x : Contents). get_or x.payloads (c.args.number - 1) c.nth_payload.result.now) seen
