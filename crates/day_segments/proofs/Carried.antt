-- What a segment leaves is short.
use Rattle.std.proofs.Common.{◌≡◌, ℕ, ◌^◌, ◌<◌, ◌≤◌, false, List, [], ◌∷◌, ◌++◌, length, subst, refl, sym, ap, arith}
use Rattle.std.proofs.lemmas.List.Elements.{All-drop, All-head, All-tail}
use Rattle.std.proofs.lemmas.List.{drop_at, length-append}
use Rattle.std.specs.List.{flat_map}
use Rattle.byte_strings.specs.Bytes.{AreBytes, IsByte}
use Rattle.binaryfile.specs.Entries.{Contents, IsPartial, Splits, entry, marker}
use Rattle.binaryfile.specs.Loading.{HasMoreMessages}
use Rattle.binaryfile.proofs.Splitting.{length_payloads}

partial_short : (tail : List ℕ) → AreBytes tail → IsPartial tail → length tail ≤ 2 ^ 16
partial_short [] are is = omega arith
partial_short (x ∷ []) are is = omega arith
partial_short (high ∷ low ∷ rest) are is =
    let first : high < 256 = All-head IsByte high (low ∷ rest) are in
    let second : low < 256 = All-head IsByte low rest (All-tail IsByte high (low ∷ rest) are) in
    omega (arith, first, second, is)

pub after : (front rest : List ℕ) → AreBytes (front ++ rest) → AreBytes rest
after front rest are = subst AreBytes (drop_at front rest (length front) refl) (All-drop IsByte (length front) (front ++ rest) are)

pub carry_short : (bytes : List ℕ) (contents : Contents) → AreBytes bytes → Splits bytes contents → false ≡ contents.marked → length contents.tail ≤ 2 ^ 16
carry_short bytes contents are split unmarked =
    let end = after (marker contents.marked) contents.tail (after (flat_map entry contents.payloads) (marker contents.marked ++ contents.tail) (subst AreBytes split.whole are)) in
    partial_short contents.tail end (split.partial (sym unmarked))

pub few_payloads : (bytes : List ℕ) (most : ℕ) → HasMoreMessages bytes most → most < length bytes
few_payloads bytes most has =
    let c = has.contents in
    omega (arith, has.more, length_payloads c.payloads, ap length has.split.whole, length-append (flat_map entry c.payloads) (marker c.marked ++ c.tail))
