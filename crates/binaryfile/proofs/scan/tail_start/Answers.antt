use Rattle.std.proofs.Common.{◌≡◌, ℕ, ◌+◌, Bool, List, length, drop, refl, ap, ◌∙◌, arith}
use Rattle.binaryfile.specs.Entries.{marker}
use Rattle.binaryfile.specs.Scanned.{contents_of}
use Rattle.binaryfile.specs.Index.{payloads_of}
use Rattle.binaryfile.proofs.ByteRanges.{bytes_are}
use Rattle.binaryfile.proofs.Offsets.{tail_at}
use Rattle.binaryfile.proofs.scan.tail_start.Goals as goal

start_is : (bytes : List ℕ) (end n : ℕ) → (m k : Bool) → m ≡ k → n ≡ length (marker m) → end + n ≡ end + length (marker k)
start_is bytes end n m k e is = ap (λ (x : ℕ). end + x) (is ∙ ap (λ (b : Bool). length (marker b)) e)

pub overflow_add-result : goal.overflow_add-result
overflow_add-result c =
    let bytes = c.args.bytes.now in
    let t = tail_at bytes c.args.end (length (payloads_of bytes)) (bytes_are bytes c.type_inv.bytes) refl c.requires.end in
    let start = start_is bytes c.args.end c.marker_len.result c.args.marked (contents_of bytes).marked c.requires.marked c.marker_len.ensures in
    record { fits = omega (arith, t.0, start) }

pub returns-clause-within : goal.returns-clause-within
returns-clause-within c =
    let bytes = c.args.bytes.now in
    let t = tail_at bytes c.args.end (length (payloads_of bytes)) (bytes_are bytes c.type_inv.bytes) refl c.requires.end in
    let start = start_is bytes c.args.end c.marker_len.result c.args.marked (contents_of bytes).marked c.requires.marked c.marker_len.ensures in
    omega (arith, t.0, start)

pub returns-clause-tail : goal.returns-clause-tail
returns-clause-tail c =
    let bytes = c.args.bytes.now in
    let t = tail_at bytes c.args.end (length (payloads_of bytes)) (bytes_are bytes c.type_inv.bytes) refl c.requires.end in
    let start = start_is bytes c.args.end c.marker_len.result c.args.marked (contents_of bytes).marked c.requires.marked c.marker_len.ensures in
    ap (λ (k : ℕ). drop k bytes) start ∙ t.1
