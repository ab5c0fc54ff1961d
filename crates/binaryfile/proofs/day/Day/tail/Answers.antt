use Rattle.std.proofs.Common.{ℕ, List, length, sym, ap, ◌∙◌}
use Rattle.binaryfile.specs.Entries.{Contents}
use Rattle.binaryfile.specs.Scanned.{contents_of}
use Rattle.binaryfile.specs.Index.{payloads_of, offset}
use Rattle.binaryfile.proofs.day.Day.tail.Goals as goal

pub bytes_after-requires-clause-end : goal.bytes_after-requires-clause-end
bytes_after-requires-clause-end g c =
    let i = c.self.invariant in
    i.end_is ∙ ap (offset (payloads_of c.self.inside.bytes.items)) i.count_is ∙ ap (λ (x : List ℕ). offset (payloads_of x) (length (payloads_of x))) (sym c.as_slice.ensures.value)

pub bytes_after-requires-clause-marked : goal.bytes_after-requires-clause-marked
bytes_after-requires-clause-marked g c = c.self.invariant.marked_is ∙ ap (λ (x : List ℕ). (contents_of x).marked) (sym c.as_slice.ensures.value)

pub returns : goal.returns
returns g c = c.bytes_after.ensures ∙ ap (λ (x : List ℕ). (contents_of x).tail) c.as_slice.ensures.value ∙ ap (λ (x : Contents). x.tail) c.self.view_is
